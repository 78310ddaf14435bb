-- Demands 1 and 2 for the calls that alter the table.
use Rattle.area.specs.declared.Area.{Area}
use Rattle.std.specs.Prelude.{None, Option, Some}
use Prim.Native.Nat.{ℕ, zero, suc, ◌-◌, ◌<◌}
use native.Mathlib.Omega.{arith}
use mathlib.Core.Path.{◌≡◌, refl, sym, ◌∙◌, ap, subst}
use mathlib.Core.Logic.{◌≢◌}
use mathlib.Core.Bool.{true}
use mathlib.Core.List.{List}
use lib.ListN.{length, drop, get_or, set, length-set, length-take}
use lib.Seq.{get_or-set_same, get_or-set_other, drop-set-lt}
use borrow.Author.Tests.{ltb-true, ltb-false, not-true, not-false}
use Rattle.replies.specs.Rules.{Rule, refusal, NoneHolds, Exact}
use Rattle.replies.proofs.Laws.Refusals.{Numbered, done-exactly, none_right, exact}
use Rattle.prefixes.proofs.Laws.Listed.{listed_kept, kept-blank}
use Rattle.links.specs.declared.Head.{Head}
use Rattle.links.specs.declared.LinkIndex.{LinkIndex}
use Rattle.links.specs.Replies.{Reply}
use Rattle.links.specs.declared.Settings.{Settings}
use Rattle.links.specs.declared.Slot.{Slot}
use Rattle.links.specs.declared.StartValues.{StartValues}
use Rattle.links.specs.declared.Table.{Table}
use Rattle.links.specs.Settings.{settings_rules, stored}
use Rattle.links.specs.Slots.{place_of, free, in_use, counted, slot_at, any, place, unused}
use Rattle.links.specs.Calls.{TableCall, enable, disable, set_area, set_own, slot_rules, rules, link_after, table_after, answer, reply, with_slot, with_area, with_own, start_values, fresh, plain_start, begin, start}
use Rattle.links.specs.Reached.{Sound}
use Rattle.links.specs.Run.{over, fresh_head, rules_over, reply_over, start_rules_over, begin_over, start_over}
use Rattle.links.specs.Demands.{Refuses, WithoutStops, RefusesStart, RefusesStartOver, TableDemand1, Starts, StartsOver, DifferAt, Keeps, Adds, Removes, Sets, TableDemand2}
use Rattle.links.proofs.Laws.Search.{any_place, before-place, at_place}
use Rattle.links.proofs.Laws.Counted.{enabled_below, slot_of_stop}
use Rattle.links.proofs.Laws.Slots.{counted-with, cleared-blank, cleared-length, cleared-rest}
use Rattle.links.proofs.Laws.Replies.{numbered, start_numbered, done}
use Rattle.links.proofs.Laws.Sound.{sound}
use Rattle.links.proofs.Laws.Run.{numbered_over, start_over_numbered, as_every_table, reached_long}

-- Demand 1

number_is : (n : ℕ) (t : Table) (c : TableCall) → (answer n t c).number ≡ n
number_is zero t c = refl
number_is (suc n) t c = refl

unchanged : (n : ℕ) (t : Table) (c : TableCall) → (answer n t c).number ≢ 0 → ((answer n t c).table ≡ t) × ((answer n t c).link ≡ None)
unchanged zero t c h = absurd (h refl)
unchanged (suc n) t c h = (refl, refl)

-- by any list of rules
refuses_by : (rs : List Rule) → Numbered rs → (t : Table) (c : TableCall) → Refuses rs t (answer (refusal rs) t c)
refuses_by rs k t c = record {
  exact = subst (Exact rs) (sym (number_is (refusal rs) t c)) (exact rs k);
  unchanged = unchanged (refusal rs) t c;
}

pub refuses : (t : Table) (c : TableCall) → Refuses (rules (counted t) c) t (reply t c)
unfolding reply
refuses t c = refuses_by (rules (counted t) c) (numbered (counted t) c) t c

refuses-over : (t : Table) (c : TableCall) → Refuses (rules_over t c) t (reply_over t c)
unfolding reply_over
refuses-over t c = refuses_by (rules_over t c) (numbered_over t c) t c

begin-number : (n : ℕ) (memory : List Slot) (v : StartValues) → (begin n memory v).number ≡ n
begin-number zero memory v = refl
begin-number (suc n) memory v = refl

-- the fresh table has no stop link
fresh_without_stops : (memory : List Slot) (v : StartValues) → WithoutStops memory v (fresh memory v)
unfolding fresh
fresh_without_stops memory v = record {
  own = refl;
  max = refl;
  tvl = refl;
  dgvl = refl;
  area = refl;
  no_stop = cleared-blank (v.max - 1) memory;
  size = cleared-length (v.max - 1) memory;
  rest = cleared-rest (v.max - 1) memory;
}

begin-refused : (n : ℕ) (memory : List Slot) (v : StartValues) → (begin n memory v).number ≢ 0
    → ((begin n memory v).link ≡ None) × WithoutStops memory plain_start (begin n memory v).table
begin-refused zero memory v h = absurd (h refl)
begin-refused (suc n) memory v h = (refl, fresh_without_stops memory plain_start)

begin-done : (n : ℕ) (memory : List Slot) (v : StartValues) → (begin n memory v).number ≡ 0
    → ((begin n memory v).link ≡ None) × WithoutStops memory v (begin n memory v).table
begin-done zero memory v e = (refl, fresh_without_stops memory v)
begin-done (suc n) memory v e = absurd (omega arith)

pub refuses-start : (most : ℕ) (memory : List Slot) (v : StartValues) → RefusesStart most memory v
unfolding start
refuses-start most memory v =
    let n = refusal (start_values most v) in
    record {
      exact = subst (Exact (start_values most v)) (sym (begin-number n memory v)) (exact (start_values most v) (start_numbered most v));
      no_link = λ h. (begin-refused n memory v h).0;
      plain_table = λ h. (begin-refused n memory v h).1;
    }

begin_over-number : (n : ℕ) (run : List Slot) (v : StartValues) → (begin_over n run v).number ≡ n
begin_over-number zero run v = refl
begin_over-number (suc n) run v = refl

begin_over-refused : (n : ℕ) (run : List Slot) (v : StartValues) → (begin_over n run v).number ≢ 0 → ((begin_over n run v).head ≡ None) × ((begin_over n run v).run ≡ run)
begin_over-refused zero run v h = absurd (h refl)
begin_over-refused (suc n) run v h = (refl, refl)

begin_over-done : (n : ℕ) (run : List Slot) (v : StartValues) → (begin_over n run v).number ≡ 0
    → ((begin_over n run v).head ≡ Some (fresh_head v)) × WithoutStops run v (over (fresh_head v) (begin_over n run v).run)
unfolding fresh
begin_over-done zero run v e = (refl, fresh_without_stops run v)
begin_over-done (suc n) run v e = absurd (omega arith)

refuses-start_over : (run : List Slot) (v : StartValues) → RefusesStartOver run v
unfolding start_over
refuses-start_over run v =
    let rs = start_rules_over run v in
    record {
      exact = subst (Exact rs) (sym (begin_over-number (refusal rs) run v)) (exact rs (start_over_numbered run v));
      unchanged = begin_over-refused (refusal rs) run v;
    }

pub table_demand_1 : TableDemand1
unfolding TableDemand1
table_demand_1 = (refuses, refuses-over, refuses-start, refuses-start_over)

-- Demand 2

starts : (most : ℕ) (memory : List Slot) (v : StartValues) → (start most memory v).number ≡ 0 → Starts most memory v
unfolding start
starts most memory v e =
    let done = begin-done (refusal (start_values most v)) memory v e in
    record { no_link = done.0; table = done.1 }

starts-over : (run : List Slot) (v : StartValues) → (start_over run v).number ≡ 0 → (h : Head) × StartsOver run v h
unfolding start_over
starts-over run v e =
    let done = begin_over-done (refusal (start_rules_over run v)) run v e in
    (fresh_head v, record { head = done.0; table = done.1 })

-- an answer 0: no rule holds, and the table is the one after the call
module _ (t : Table) (c : TableCall) (e : (reply t c).number ≡ 0) where
  zero_given : refusal (rules (counted t) c) ≡ 0
  unfolding reply
  zero_given = sym (number_is (refusal (rules (counted t) c)) t c) ∙ e

  none-holds : NoneHolds (rules (counted t) c)
  none-holds = (done-exactly (rules (counted t) c) (numbered (counted t) c)).0 zero_given

  table_is : (reply t c).table ≡ table_after t c
  table_is = ap (λ (r : Reply). r.table) (done t c zero_given)

  link_is : (reply t c).link ≡ link_after (counted t) c
  link_is = ap (λ (r : Reply). r.link) (done t c zero_given)

keeps : (s : Settings) → Keeps s.prefixes (stored s).prefixes
unfolding stored
keeps s = record { listed = listed_kept s.prefixes; blank = kept-blank s.prefixes }

-- one slot is replaced
module _ (t u : Table) (k : ℕ) (x : Slot) (e : u ≡ with_slot t k x) where
  run_is : counted u ≡ set (counted t) k x
  run_is = ap counted e ∙ counted-with t k x

  at_k : k < length (counted t) → get_or (counted u) k free ≡ x
  at_k h = ap (λ (l : List Slot). get_or l k free) run_is ∙ get_or-set_same (counted t) k x free h

  differ : k < length (counted t) → DifferAt k t u
  differ h = record {
    own = sym (ap (λ (v : Table). v.own) e);
    max = sym (ap (λ (v : Table). v.max) e);
    tvl = sym (ap (λ (v : Table). v.tvl) e);
    dgvl = sym (ap (λ (v : Table). v.dgvl) e);
    area = sym (ap (λ (v : Table). v.area) e);
    others = λ j n. sym (ap (λ (l : List Slot). get_or l j free) run_is ∙ get_or-set_other (counted t) k j x free n);
    size = sym (ap (λ (v : Table). length v.slots) e ∙ length-set t.slots k x);
    rest = sym (ap (λ (v : Table). drop (t.max - 1) v.slots) e ∙ drop-set-lt (t.max - 1) t.slots k x (omega (arith, simp length-take at h)));
  }

module _ (most : ℕ) (memory : List Slot) (t : Table) (h : Sound most memory t) where
  adds : (s : Settings) → (reply t (enable s)).number ≡ 0 → (k : ℕ) × Adds t s k
  unfolding rules slot_rules table_after link_after
  adds s e =
      let l = counted t in
      let k = place unused l in
      let slots = none_right (settings_rules s) (slot_rules l s) (none-holds t (enable s) e) in
      let below : k < length l = ltb-true k (length l) (sym (any_place unused l) ∙ not-false (any unused l) slots.1.1.0) in
      let now-is = table_is t (enable s) e in (
        k,
        record {
          link = link_is t (enable s) e;
          within = omega (arith, h.room, h.least);
          lower = λ j b. not-false _ (before-place unused l j free b);
          unused = h.blank k (not-true _ (at_place unused l free below));
          there = at_k t (reply t (enable s)).table k (in_use (stored s)) now-is below;
          keeps = keeps s;
          alone = differ t (reply t (enable s)).table k (in_use (stored s)) now-is below;
        },
      )

  removes : (i : LinkIndex) → (reply t (disable i)).number ≡ 0 → Removes t i
  unfolding rules table_after link_after
  removes i e =
      let l = counted t in
      let none = none-holds t (disable i) e in
      let k = place_of i in
      let on : (get_or l k free).enabled ≡ true = rw (slot_of_stop l i none.0) at (not-false (slot_at l i).enabled none.1.0) in
      let below = enabled_below l k on in
      let now-is = table_is t (disable i) e in
      record {
        stop = ltb-false i.0 2 none.0;
        no_link = link_is t (disable i) e;
        was = on;
        gone = at_k t (reply t (disable i)).table k free now-is below;
        alone = differ t (reply t (disable i)).table k free now-is below;
      }

-- own MID and area are set, and nothing else
sets : (t : Table) (c : TableCall) (mid : ℕ) (a : Option Area) → (reply t c).link ≡ None → (reply t c).table ≡ with_area (with_own t mid) a → Sets t c mid a
sets t c mid a none e = record {
  no_link = none;
  own = ap (λ (u : Table). u.own) e;
  max = ap (λ (u : Table). u.max) e;
  tvl = ap (λ (u : Table). u.tvl) e;
  dgvl = ap (λ (u : Table). u.dgvl) e;
  area = ap (λ (u : Table). u.area) e;
  slots = ap (λ (u : Table). u.slots) e;
}

pub table_demand_2 : TableDemand2
unfolding TableDemand2 table_after link_after
table_demand_2 = (
  starts,
  starts-over,
  λ most memory t r c. as_every_table t c (reached_long r),
  λ most memory t r. (
    adds most memory t (sound r),
    removes most memory t (sound r),
    λ a e. sets t (set_area a) t.own a (link_is t (set_area a) e) (table_is t (set_area a) e),
    λ m e. sets t (set_own m) m t.area (link_is t (set_own m) e) (table_is t (set_own m) e),
  ),
)
