-- `queue_calls::next_packet` meets its contract.
use native.Mathlib.Omega.{arith}
use Rattle.queues.specs.declared.Queue.TheVariants.{Control, Film}
use Rattle.queue_calls.proofs.Laws.Shown.{in_queue}
use Rattle.queue_calls.proofs.next_packet.Goals as goal

pub part_there-requires-in-Control : goal.part_there-requires-in-Control
part_there-requires-in-Control c =
    let there = in_queue c.args.state c.args.control.now c.args.film.now c.in-Ok.next Control c.in-Ok.ensures c.in-Control.is in
    omega (arith, there.held_within, there.few, there.size)

pub part_there-requires-in-Film : goal.part_there-requires-in-Film
part_there-requires-in-Film c =
    let there = in_queue c.args.state c.args.control.now c.args.film.now c.in-Ok.next Film c.in-Ok.ensures c.in-Film.is in
    omega (arith, there.held_within, there.few, there.size)
