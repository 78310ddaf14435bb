-- `queue_calls::take` meets its contract.
use native.Mathlib.Omega.{arith}
use mathlib.Core.Path.{refl}
use Rattle.queues.specs.declared.Queue.TheVariants.{Control, Film}
use Rattle.queue_calls.proofs.Laws.Shown.{in_queue}
use Rattle.queue_calls.proofs.take.Goals as goal

pub overflow_add-n : goal.overflow_add-n
overflow_add-n c =
    let there = in_queue c.args.state c.args.control.now c.args.film.now c.in_ok-next.next c.in_ok-next.next.queue c.in_ok-next.ensures refl in
    omega (arith, there.held_within, there.few)

pub move_down-requires : goal.move_down-requires
move_down-requires c =
    let there = in_queue c.args.state c.args.control.now c.args.film.now c.in_ok-next.next Control c.in_ok-next.ensures c.in-Control.is in
    (there.held_within, there.few, there.size)

pub overflow_sub-result : goal.overflow_sub-result
overflow_sub-result c = (in_queue c.args.state c.args.control.now c.args.film.now c.in_ok-next.next Control c.in_ok-next.ensures c.in-Control.is).held_within

pub move_down-requires-in-Film : goal.move_down-requires-in-Film
move_down-requires-in-Film c =
    let there = in_queue c.args.state c.args.control.now c.args.film.now c.in_ok-next.next Film c.in_ok-next.ensures c.in-Film.is in
    (there.held_within, there.few, there.size)

pub overflow_sub-result-in-Film : goal.overflow_sub-result-in-Film
overflow_sub-result-in-Film c = (in_queue c.args.state c.args.control.now c.args.film.now c.in_ok-next.next Film c.in_ok-next.ensures c.in-Film.is).held_within
