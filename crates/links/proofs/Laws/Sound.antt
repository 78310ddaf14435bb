-- Every table that calls reach is sound.
use Rattle.area.specs.declared.Area.{Area}
use Rattle.std.specs.Prelude.{Option}
use Prim.Native.Nat.{ℕ, zero, suc, ◌-◌, ◌^◌, ◌≤◌, ◌<◌}
use native.Mathlib.Omega.{arith}
use mathlib.Core.Path.{◌≡◌, refl, sym, ◌∙◌, subst}
use mathlib.Core.Logic.{◌⊎◌, inl, inr}
use mathlib.Core.Bool.{true, false, and-eq-true_iff}
use mathlib.Mathlib.Data.Bool.Basic.{or-eq-false-eq-eq-false-and-eq-false}
use mathlib.Core.List.{List}
use lib.Dec.{lit≤}
use lib.ListN.{length, take, set, get_or, length-take}
use borrow.Author.Tests.{leb-true, ltb-true, not-false}
use Rattle.octets.proofs.Laws.Tests.{clash}
use Rattle.replies.specs.Rules.{refusal, NoneHolds}
use Rattle.replies.proofs.Laws.Refusals.{done-exactly, none_left, none_right}
use Rattle.links.specs.declared.LinkIndex.{LinkIndex}
use Rattle.links.specs.declared.Settings.{Settings}
use Rattle.links.specs.declared.Slot.{Slot}
use Rattle.links.specs.declared.StartValues.{StartValues}
use Rattle.links.specs.declared.Table.{Table}
use Rattle.links.specs.Settings.{mid_ok, interface_ok, retired, settings_rules, same_ground, overlaps, overlaps_itself, stored}
use Rattle.links.specs.Slots.{place_of, Has, free, value_slots, in_use, counted, slot_at, any, place, unused, enabled_count}
use Rattle.links.specs.Calls.{TableCall, enable, disable, set_area, set_own, slot_rules, rules, with_slot, with_area, with_own, good_dynamic, start_ok, start_values, cleared, fresh, plain_start, begin, start, start_by_value, table_after, answer, reply}
use Rattle.links.specs.Reached.{Reached, started, called, ByValue, Apart, Sound}
use Rattle.links.proofs.Laws.Settings.{ground_sym, overlaps-sym, rules-stored, ground_stored, overlaps-stored, itself_stored, stored_twice}
use Rattle.links.proofs.Laws.Search.{any_place}
use Rattle.links.proofs.Laws.Counted.{enabled_below, slot_of_stop}
use Rattle.links.proofs.Laws.Slots.{free_has_none, any_none, counted-with, cleared-blank, cleared-length, cleared-rest, count_within}
use Rattle.links.proofs.Laws.Replaced.{room-with, few-with, rest-with, blank-with, filled, apart_filled, freed}
use Rattle.links.proofs.Laws.Replies.{settings_numbered, numbered, start_numbered}

start_ok_lem : (most : ℕ) (v : StartValues) → refusal (start_values most v) ≡ 0 → (start_ok most v ≡ true) × (retired v.tvl ≡ false) × (retired v.dgvl ≡ false)
unfolding start_values
start_ok_lem most v e =
    let none = (done-exactly (start_values most v) (start_numbered most v)).0 e in
    let kept = simp or-eq-false-eq-eq-false-and-eq-false at none.1.0 in
    (not-false (start_ok most v) none.0, kept.0, kept.1)

module _ (most : ℕ) (memory : List Slot) where
  start_sound : (v : StartValues) → refusal (start_values most v) ≡ 0 → v.max - 1 ≤ length memory → Sound most memory (fresh memory v)
  unfolding fresh
  start_sound v e h =
      let max = v.max in
      let ok = start_ok_lem most v e in
      let g = simp and-eq-true_iff at ok.0 in
      let run = take (max - 1) (cleared (max - 1) memory) in
      let room : length run ≡ max - 1 = rw (length-take (max - 1) (cleared (max - 1) memory), cleared-length (max - 1) memory) (omega arith) in
      let empty : (k : ℕ) (s : Settings) → Has run k s → ⊥ = λ k s p. free_has_none s (sym (cleared-blank (max - 1) memory k) ∙ p) in
      record {
        own = ltb-true v.own (2 ^ 48) g.0.0.0.0;
        least = leb-true 2 max g.0.0.0.1;
        largest = leb-true max most g.0.0.1;
        tvl = g.0.1;
        dgvl = g.1;
        tvl_kept = ok.1;
        dgvl_kept = ok.2;
        area = refl;
        good = λ k s p. absurd (empty k s p);
        areas = λ j k r s p q m. absurd (empty j r p);
        prefixes = λ j k r s p q m. absurd (empty j r p);
        within = λ k s p. absurd (empty k s p);
        tidy = λ k s p. absurd (empty k s p);
        room = room;
        few = subst (λ (n : ℕ). enabled_count run ≤ n) room (count_within run);
        blank = λ k p. cleared-blank (max - 1) memory k;
        rest = cleared-rest (max - 1) memory;
      }

  enable_sound : (t : Table) (s : Settings) → Sound most memory t → NoneHolds (rules (counted t) (enable s)) → Sound most memory (with_slot t (place unused (counted t)) (in_use (stored s)))
  unfolding rules slot_rules
  enable_sound t s h n =
      let l = counted t in
      let k = place unused l in
      let kept = stored s in
      let u = with_slot t k (in_use kept) in
      let slots = none_right (settings_rules s) (slot_rules l s) n in
      let below : k < length l = ltb-true k (length l) (sym (any_place unused l) ∙ not-false (any unused l) slots.1.1.0) in
      let now-is : counted u ≡ set l k (in_use kept) = counted-with t k (in_use kept) in
      let apart = simp or-eq-false-eq-eq-false-and-eq-false at slots.1.0 in
      record {
        own = h.own;
        least = h.least;
        largest = h.largest;
        tvl = h.tvl;
        dgvl = h.dgvl;
        tvl_kept = h.tvl_kept;
        dgvl_kept = h.dgvl_kept;
        area = h.area;
        good = λ j r p.
            each (λ r. refusal (settings_rules r) ≡ 0) (rw (rules-stored s) ((done-exactly (settings_rules s) (settings_numbered s)).1 (none_left (settings_rules s) (slot_rules l s) n))) h.good now-is j r p;
        areas = subst (Apart same_ground) (sym now-is) (apart_filled l k kept same_ground ground_sym (λ j r p. ground_stored r s ∙ any_none (λ r. same_ground r s) l slots.0 j r p) h.areas);
        prefixes =
            subst (Apart overlaps) (sym now-is)
            (apart_filled l k kept overlaps overlaps-sym (λ j r p. overlaps-stored r s ∙ any_none (λ r. overlaps r s) l apart.0 j r p) h.prefixes);
        within = each (λ r. overlaps_itself r ≡ false) (itself_stored s ∙ apart.1) h.within now-is;
        tidy = each (λ r. stored r ≡ r) (stored_twice s) h.tidy now-is;
        room = room-with most memory t h k (in_use kept);
        few = few-with most memory t h k (in_use kept);
        blank = blank-with most memory t h k (in_use kept) below (λ e. clash refl e);
        rest = rest-with most memory t h k (in_use kept) below;
      }
    where
      -- what holds of the new link, and of each that was enabled before, holds of each that is enabled now
      each : (A : Settings → Type 0) → A (stored s) → ((j : ℕ) (r : Settings) → Has (counted t) j r → A r)
          → {now : List Slot} → now ≡ set (counted t) (place unused (counted t)) (in_use (stored s)) → (j : ℕ) (r : Settings) → Has now j r → A r
      each A new old e j r p = go (filled (counted t) (place unused (counted t)) (stored s) j r (subst (λ (m : List Slot). Has m j r) e p))
        where
          go : ((j ≡ place unused (counted t)) × (stored s ≡ r)) ⊎ Has (counted t) j r → A r
          go (inl x) = subst A x.1 new
          go (inr y) = old j r y

  disable_sound : (t : Table) (i : LinkIndex) → Sound most memory t → NoneHolds (rules (counted t) (disable i)) → Sound most memory (with_slot t (place_of i) free)
  unfolding rules
  disable_sound t i h n =
      let l = counted t in
      let k = place_of i in
      let on : (get_or l k free).enabled ≡ true = rw (slot_of_stop l i n.0) at (not-false (slot_at l i).enabled n.1.0) in
      let below = enabled_below l k on in
      let now-is : counted (with_slot t k free) ≡ set l k free = counted-with t k free in
      let back : (j : ℕ) (s : Settings) → Has (counted (with_slot t k free)) j s → Has l j s =
      λ j s p. freed l k j s (subst (λ (m : List Slot). Has m j s) now-is p) in
      record {
        own = h.own;
        least = h.least;
        largest = h.largest;
        tvl = h.tvl;
        dgvl = h.dgvl;
        tvl_kept = h.tvl_kept;
        dgvl_kept = h.dgvl_kept;
        area = h.area;
        good = λ j s p. h.good j s (back j s p);
        areas = λ j m r s p q. h.areas j m r s (back j r p) (back m s q);
        prefixes = λ j m r s p q. h.prefixes j m r s (back j r p) (back m s q);
        within = λ j s p. h.within j s (back j s p);
        tidy = λ j s p. h.tidy j s (back j s p);
        room = room-with most memory t h k free;
        few = few-with most memory t h k free;
        blank = blank-with most memory t h k free below (λ e. refl);
        rest = rest-with most memory t h k free below;
      }

  -- another own MID or area of the dynamic link, and nothing else
  head_sound : (t : Table) (m : ℕ) (a : Option Area) → m < 2 ^ 48 → good_dynamic a ≡ true → Sound most memory t
      → Sound most memory (with_area (with_own t m) a)
  head_sound t m a own area h =
      record {
        own = own;
        least = h.least;
        largest = h.largest;
        tvl = h.tvl;
        dgvl = h.dgvl;
        tvl_kept = h.tvl_kept;
        dgvl_kept = h.dgvl_kept;
        area = area;
        good = h.good;
        areas = h.areas;
        prefixes = h.prefixes;
        within = h.within;
        tidy = h.tidy;
        room = h.room;
        few = h.few;
        blank = h.blank;
        rest = h.rest;
      }

  after : (t : Table) (c : TableCall) → Sound most memory t → NoneHolds (rules (counted t) c) → Sound most memory (table_after t c)
  unfolding table_after rules
  after t (enable s) h n = enable_sound t s h n
  after t (disable i) h n = disable_sound t i h n
  after t (set_area a) h n = head_sound t t.own a h.own (not-false (good_dynamic a) n.0) h
  after t (set_own m) h n = head_sound t m t.area (ltb-true m (2 ^ 48) (not-false (mid_ok m) n.0)) h.area h

  answered : (n : ℕ) (t : Table) (c : TableCall) → refusal (rules (counted t) c) ≡ n → Sound most memory t → Sound most memory (answer n t c).table
  answered zero t c e h = after t c h ((done-exactly (rules (counted t) c) (numbered (counted t) c)).0 e)
  answered (suc n) t c e h = h

pub sound : {most : ℕ} {memory : List Slot} {t : Table} → Reached most memory t → Sound most memory t
unfolding reply
sound {most} {memory} (started v e r) = start_sound most memory v e r
sound {most} {memory} (called {t = t} h c) = answered most memory (refusal (rules (counted t) c)) t c refl (sound h)

-- the table that a start by value returns, refused or not
pub start_reached : (v : StartValues) → ByValue (start_by_value v).table
unfolding start start_values interface_ok
start_reached v = go (refusal (start_values 65 v)) refl
  where
    go : (n : ℕ) → refusal (start_values 65 v) ≡ n → ByValue (begin n value_slots v).table
    go zero e =
        let g = simp and-eq-true_iff at (start_ok_lem 65 v e).0 in
        started v e (omega (arith, leb-true v.max 65 g.0.0.1))
    go (suc n) e = started plain_start refl (lit≤ tt)
