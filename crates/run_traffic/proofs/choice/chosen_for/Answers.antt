-- `run_traffic::choice::chosen_for` meets its contract.
use Rattle.std.proofs.Common.{arith, ◌-◌}
use mathlib.Core.Path.{sym, ◌∙◌, ap}
use borrow.Author.Tests.{eq-eqb, ne_eqb}
use Rattle.links.specs.declared.Slot.{Slot}
use Rattle.links.specs.Run.{over}
use Rattle.links.specs.Slots.{free, counted}
use Rattle.links.proofs.Laws.Counted.{counted-at, any_default}
use Rattle.links.proofs.Laws.Kinds.{topological_kind, dynamic_kind, stop_kind, chosen_is}
use Rattle.traffic.specs.Arrives.{indication, choose, link_index}
use Rattle.traffic.proofs.Laws.Choice.{choose-topological, chosen_by_index}
use Rattle.run_traffic.proofs.Laws.Stops.{place-below, place-in_run, index-stop, index-dynamic}
use Rattle.run_traffic.proofs.choice.chosen_for.Goals as goal

pub returns-then-h-eq-TSB : goal.returns-then-h-eq-TSB
returns-then-h-eq-TSB c =
    let t = over c.args.head c.args.run.now in
    let x = indication c.args.h c.args.packet.now in
    chosen_is t _ _ (sym (ap link_index (choose-topological (counted t) x (eq-eqb _ 4 c.if-h-eq-TSB.true)))) (topological_kind t)
    ∙ chosen_by_index t x

pub overflow_add-result : goal.overflow_add-result
overflow_add-result c =
    let here = place-in_run (c.args.head.max - 1) c.args.run.now (indication c.args.h c.args.packet.now) c.in-Some.place c.in-Some.ensures in
    omega arith

pub offset_bounds-run-place : goal.offset_bounds-run-place
offset_bounds-run-place c =
    let here = place-in_run (c.args.head.max - 1) c.args.run.now (indication c.args.h c.args.packet.now) c.in-Some.place c.in-Some.ensures in
    omega arith

pub bounds-run-place : goal.bounds-run-place
bounds-run-place c = place-in_run (c.args.head.max - 1) c.args.run.now (indication c.args.h c.args.packet.now) c.in-Some.place c.in-Some.ensures

pub returns-in-Some : goal.returns-in-Some
returns-in-Some c =
    let t = over c.args.head c.args.run.now in
    let x = indication c.args.h c.args.packet.now in
    let k = c.in-Some.place in
    let kind = ap (λ (y : Slot). y.settings.interface.kind)
    (any_default t.slots k _ free (place-in_run (t.max - 1) t.slots x k c.in-Some.ensures) ∙ sym (counted-at t k free (place-below (counted t) x k c.in-Some.ensures))) in
    chosen_is t _ _ (sym (index-stop (choose (counted t) x) k c.in-Some.ensures)) (kind ∙ sym (stop_kind t k)) ∙ chosen_by_index t x

pub returns-in-None : goal.returns-in-None
returns-in-None c =
    let t = over c.args.head c.args.run.now in
    let x = indication c.args.h c.args.packet.now in
    let none = index-dynamic (counted t) x (ne_eqb _ 4 c.if-h-eq-TSB.false) c.in-None.ensures in
    chosen_is t _ _ (sym none) (dynamic_kind t) ∙ chosen_by_index t x
