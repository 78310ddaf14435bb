-- `queue_calls::add` meets its contract.
use native.Mathlib.Omega.{arith}
use mathlib.Core.Path.{◌∙◌, ap}
use Rattle.queues.specs.Calls.{Queue}
use Rattle.queue_calls.proofs.Laws.Laid.{needed}
use Rattle.queue_calls.proofs.Laws.Added.{is_added, added_fits}
use Rattle.queue_calls.proofs.add.Goals as goal

pub overflow_add-result : goal.overflow_add-result
overflow_add-result c =
    let args = c.args in
    omega (arith, needed args.held c.write-run.result args.packet.now c.write-run.ensures, (added_fits args.held args.queue.now args.packet.now c.in_ok-check_add.ensures).0)

pub overflow_add-result-2 : goal.overflow_add-result-2
overflow_add-result-2 c =
    let args = c.args in
    omega (arith, needed args.held c.write-run.result args.packet.now c.write-run.ensures, (added_fits args.held args.queue.now args.packet.now c.in_ok-check_add.ensures).0)

pub returns-clause-held : goal.returns-clause-held
returns-clause-held c =
    let args = c.args in
    needed args.held c.write-run.result args.packet.now c.write-run.ensures
    ∙ ap (λ (q : Queue). q.held) (is_added args.held args.queue.now args.packet.now c.in_ok-check_add.ensures)
