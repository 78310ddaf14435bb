-- `run_traffic::choice::stop_for` meets its contract.
use Rattle.std.proofs.Common.{rules, ◌≡◌, ◌-◌, ℕ, take, List, Option, refl, eqb, ◌||◌, Bool, true, false, ◌⊎◌, inl, inr}
use mathlib.Core.Path.{◌∙◌, ap}
use Rattle.area.specs.declared.Area.{Area}
use Rattle.area.specs.Area.{same_area}
use Rattle.prefix.specs.Prefix.{of_address}
use Rattle.links.specs.Slots.{any, place, with}
use Rattle.links.specs.declared.Slot.{Slot}
use Rattle.search.specs.Search.{overlapping, found_in}
use Rattle.traffic.specs.declared.Destination.{Destination}
use Rattle.traffic.specs.declared.Destination.TheVariants.{Mid, Nothing}
use Rattle.traffic.specs.Arrives.{indication, is_area}
use Rattle.run_traffic.proofs.Laws.Stops.{by_address, by_ground, elsewhere, failing_that}
use Rattle.run_traffic.proofs.choice.stop_for.Goals as goal

-- a search of the slots that count, by a test that is another's
asks : (run : List Slot) (count n : ℕ) (asked q : Slot → Bool) (r : Option ℕ) → r ≡ found_in (take count run) asked → count ≡ n → asked ≡ q → r ≡ found_in (take n run) q
asks run count n asked q r e f g =
    e ∙ ap (λ (m : ℕ). found_in (take m run) asked) f ∙ ap (λ (p : Slot → Bool). found_in (take n run) p) g

pub returns-in-1 : goal.returns-in-1
returns-in-1 c =
    let args = c.args in
    let l = take (args.max - 1) args.run.now in
    let to = with (overlapping c.of_address.result) in
    let from = with (overlapping c.of_address-in-1.result) in
    failing_that c.find.result (found_in l from) c.or_else.result (any to l) (place to l) _
    (asks args.run.now _ (args.max - 1) to to c.find.result c.find.ensures c.slot_count-count.ensures refl) c.or_else.ensures
    (λ asked. asks args.run.now _ (args.max - 1) from from c.or_else.result (search rules) c.slot_count-count.ensures refl)
    ∙ by_address l (indication args.h args.packet.now) c.of_address.result c.of_address-in-1.result (λ i. (c.type_inv.packet i).fits)
    (c.of_address.ensures ∙ ap of_address c.destination_of.ensures) (c.of_address-in-1.ensures ∙ ap of_address c.source_of.ensures) c.in-1.is

pub returns-in-Within : goal.returns-in-Within
returns-in-Within c =
    let args = c.args in
    let l = take (args.max - 1) args.run.now in
    let e : (eqb args.h.transport 2 || eqb args.h.transport 3) ≡ true = search rules in
    asks args.run.now _ (args.max - 1) _ (with (λ s. same_area s.area c.in-Within.area)) c.find-in-Within.result c.find-in-Within.ensures c.slot_count-count.ensures c.of.ensures.asks
    ∙ by_ground l (indication args.h args.packet.now) e c.in-Within.area c.in-Within.is

-- a destination that is no area
no_area : (d : Destination) → ((m : ℕ) × (d ≡ Mid m)) ⊎ (d ≡ Nothing) → (b : Area) → is_area d b ≡ false
no_area d (inl p) b = rw p.1
no_area d (inr e) b = rw e

pub returns-in-Mid : goal.returns-in-Mid
returns-in-Mid c =
    let args = c.args in
    let e : (eqb args.h.transport 2 || eqb args.h.transport 3) ≡ true = search rules in
    elsewhere (take (args.max - 1) args.run.now) (indication args.h args.packet.now) e (no_area args.h.destination c.in-Mid.is)
