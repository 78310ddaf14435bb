-- `queue_calls::front_at` meets its contract.
use native.Mathlib.Omega.{arith}
use mathlib.Core.Path.{sym}
use Rattle.queue_calls.proofs.Laws.Front.{there, read_there}
use Rattle.queue_calls.proofs.front_at.Goals as goal

pub overflow_sub-held : goal.overflow_sub-held
overflow_sub-held c =
    let args = c.args in
    (read_there args.held.now args.at _ _ (sym c.in_ok-length.ensures)).within

pub returns : goal.returns
returns c =
    let args = c.args in
    there args.held.now args.at _ _ (sym c.in_ok-length.ensures) (omega arith) (omega arith)
