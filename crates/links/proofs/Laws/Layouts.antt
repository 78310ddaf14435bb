-- Which tables over a run calls reach, what a call touches of the run, and that both layouts answer alike.
use Rattle.std.specs.Prelude.{None, Option, Some}
use Prim.Native.Nat.{ℕ, zero, suc, ◌+◌, ◌-◌, ◌≤◌}
use native.Mathlib.Omega.{arith}
use mathlib.Core.Path.{◌≡◌, refl, sym, ◌∙◌, ap, subst}
use mathlib.Core.Logic.{◌≢◌}
use mathlib.Core.Bool.{true, false}
use mathlib.Core.List.{List, [], ◌∷◌}
use lib.Dec.{leb, ltb}
use lib.ListN.{length, take, set, get_or, replicate, length-set, length-replicate}
use lib.Seq.{get_or-set_other}
use borrow.Author.Tests.{le-leb, le-ltb, ltb-false}
use Rattle.replies.specs.Rules.{refusal}
use Rattle.replies.proofs.Laws.Refusals.{done-exactly, none_right}
use Rattle.links.specs.declared.Head.{Head}
use Rattle.links.specs.declared.LinkIndex.{LinkIndex}
use Rattle.links.specs.Replies.{Reply}
use Rattle.links.specs.declared.Slot.{Slot}
use Rattle.links.specs.declared.StartValues.{StartValues}
use Rattle.links.specs.declared.Table.{Table}
use Rattle.links.specs.Settings.{stored}
use Rattle.links.specs.Slots.{place_of, free, value_slots, in_use, counted, place, unused}
use Rattle.links.specs.Calls.{TableCall, enable, disable, set_area, set_own, rules, link_after, table_after, answer, reply, start_values, cleared, fresh, begin, start, with_slot}
use Rattle.links.specs.Reached.{Reached, started, called}
use Rattle.links.specs.Run.{over, head_of, too_short, fresh_head, rules_over, reply_over, start_rules_over, begin_over, Started, start_over}
use Rattle.links.specs.Layouts.{ReachedOver, started_over, called_over, ReachedInRun, Own, TouchesOwn, Alike, AnswersAlike, StartsAlike, answers, answers_over, AllAlike, none, next, LayoutsAlike}
use Rattle.links.proofs.Laws.Slots.{counted-with, cleared-length}
use Rattle.links.proofs.Laws.Run.{numbered_over, as_every_table, start-long-enough, start_over_numbered, reached_long}

-- Reached

head_in : Head → Option Head → Head
head_in h (Some k) = k
head_in h None = h

is_none : Option Head → Type 0
is_none (Some k) = ⊥
is_none None = Unit {0}

-- what a start over a run gives, by its number
begun-head : (n : ℕ) (run : List Slot) (v : StartValues) (h : Head) → (begin_over n run v).head ≡ Some h → (n ≡ 0) × (h ≡ fresh_head v)
unfolding head_in is_none
begun-head zero run v h e = (refl, sym (ap (head_in h) e))
begun-head (suc n) run v h e = absurd (subst is_none e tt)

reached_there : (first : List Slot) {h : Head} {run : List Slot} → ReachedOver first h run → Reached 4093 first (over h run)
unfolding start_over start_rules_over fresh
reached_there first (started_over v h e g) =
    let rs = start_rules_over first v in
    let is = begun-head (refusal rs) first v h g in
    let no-rule = (done-exactly rs (start_over_numbered first v)).0 is.0 in
    let room = none_right (start_values 4093 v) _ no-rule in
    let enough : v.max - 1 ≤ length first = ltb-false (length first) (v.max - 1) room.0 in
    let values : refusal (start_values 4093 v) ≡ 0 = sym (start-long-enough first v room.0) ∙ is.0 in
    subst (λ (n : ℕ). Reached 4093 first (over h (begin_over n first v).run)) (sym is.0)
    (subst (λ (k : Head). Reached 4093 first (over k (cleared (v.max - 1) first))) (sym is.1) (started v values enough))
reached_there first (called_over {h = h} {run = run} r c k left e) =
    let before = reached_there first r in
    subst (Reached 4093 first) (sym (ap (λ (q : Reply). q.table) (as_every_table (over h run) c (reached_long before))) ∙ e) (called before c)

reached_back : (first : List Slot) {t : Table} → Reached 4093 first t → ReachedOver first (head_of t) t.slots
unfolding start_over fresh
reached_back first (started v e enough) =
    let long : too_short v.max first ≡ false = le-ltb (length first) (v.max - 1) enough in
    let zero_given : refusal (start_rules_over first v) ≡ 0 = start-long-enough first v long ∙ e in
    let begun = ap (λ (n : ℕ). begin_over n first v) zero_given in
    subst (ReachedOver first (fresh_head v)) (ap (λ (s : Started). s.run) begun)
    (started_over v (fresh_head v) (ap (λ (s : Started). s.number) begun) (ap (λ (s : Started). s.head) begun))
reached_back first (called {t = t} r c) =
    called_over (reached_back first r) c (head_of (reply t c).table) (reply t c).table.slots (ap (λ (q : Reply). q.table) (as_every_table t c (reached_long r)))

pub reached_in_run : ReachedInRun
unfolding ReachedInRun
reached_in_run first h run = (reached_there first, reached_back first)

-- What a call touches

abbrev OwnBy : Reply → TableCall → ℕ → Type 0
OwnBy r (enable s) j = r.link ≡ Some (record { 0 = j + 2 })
OwnBy r (disable i) j = i.0 ≡ j + 2
OwnBy r (set_area a) j = ⊥
OwnBy r (set_own m) j = ⊥

module _ (t : Table) where
  -- a disable that is done names a stop
  a-stop : (i : LinkIndex) → refusal (rules_over t (disable i)) ≡ 0 → 2 ≤ i.0
  unfolding rules_over rules
  a-stop i e = ltb-false i.0 2 ((done-exactly (rules_over t (disable i)) (numbered_over t (disable i))).0 e).1.0

  size : (n : ℕ) (c : TableCall) → length (answer n t c).table.slots ≡ length t.slots
  unfolding table_after
  size zero (enable s) = length-set t.slots _ _
  size zero (disable i) = length-set t.slots _ _
  size zero (set_area a) = refl
  size zero (set_own m) = refl
  size (suc n) c = refl

  others : (n : ℕ) (c : TableCall) → refusal (rules_over t c) ≡ n → (j : ℕ) → (OwnBy (answer n t c) c j → ⊥)
      → get_or (answer n t c).table.slots j free ≡ get_or t.slots j free
  unfolding table_after link_after
  others zero (enable s) e j other =
      get_or-set_other t.slots (place unused (counted t)) j (in_use (stored s)) free (λ is. other (ap (λ (k : ℕ). Some (record { 0 = k + 2 })) (sym is)))
  others zero (disable i) e j other =
      let stop = a-stop i e in
      get_or-set_other t.slots (place_of i) j free free (λ is. other (omega (arith, is, stop)))
  others zero (set_area a) e j other = refl
  others zero (set_own m) e j other = refl
  others (suc n) c e j other = refl

  kept : (n : ℕ) (c : TableCall) → (answer n t c).number ≢ 0 → (answer n t c).table.slots ≡ t.slots
  kept zero c h = absurd (h refl)
  kept (suc n) c h = refl

  own_by : (c : TableCall) (j : ℕ) → OwnBy (reply_over t c) c j → Own t c j
  own_by (enable s) j o = o
  own_by (disable i) j o = o
  own_by (set_area a) j o = o
  own_by (set_own m) j o = o

pub touches_own : TouchesOwn
unfolding TouchesOwn reply_over
touches_own t c =
    let n = refusal (rules_over t c) in
    record {
      size = size t n c;
      others = λ j other. others t n c refl j (λ o. other (own_by t c j o));
      refused = kept t n c;
    }

-- Both layouts answer alike

-- a slot is replaced in both
replaced : (t u : Table) → Alike t u → (k m : ℕ) (x : Slot) → k ≡ m → Alike (with_slot t k x) (with_slot u m x)
replaced t u a k m x e = record {
  own = a.own;
  max = a.max;
  tvl = a.tvl;
  dgvl = a.dgvl;
  area = a.area;
  records = counted-with t k x ∙ ap (λ (l : List Slot). set l k x) a.records ∙ ap (λ (j : ℕ). set (counted u) j x) e ∙ sym (counted-with u m x);
  first = ap (λ (n : ℕ). ltb n (t.max - 1)) (length-set t.slots k x) ∙ a.first;
  second = ap (λ (n : ℕ). ltb n (u.max - 1)) (length-set u.slots m x) ∙ a.second;
}

module _ (t u : Table) (a : Alike t u) where
  after-alike : (c : TableCall) → Alike (table_after t c) (table_after u c)
  unfolding table_after
  after-alike (enable s) = replaced t u a _ _ (in_use (stored s)) (ap (place unused) a.records)
  after-alike (disable i) = replaced t u a (place_of i) (place_of i) free refl
  after-alike (set_area x) = record {
    own = a.own;
    max = a.max;
    tvl = a.tvl;
    dgvl = a.dgvl;
    area = refl;
    records = a.records;
    first = a.first;
    second = a.second;
  }
  after-alike (set_own m) = record {
    own = refl;
    max = a.max;
    tvl = a.tvl;
    dgvl = a.dgvl;
    area = a.area;
    records = a.records;
    first = a.first;
    second = a.second;
  }

  by_number : (n : ℕ) (c : TableCall) → AnswersAlike (answer n t c) (answer n u c)
  by_number zero c = record { number = refl; link = ap (λ (l : List Slot). link_after l c) a.records; table = after-alike c }
  by_number (suc n) c = record { number = refl; link = refl; table = a }

  calls-alike : (c : TableCall) → AnswersAlike (reply t c) (reply_over u c)
  unfolding reply
  calls-alike c =
      subst (AnswersAlike (reply t c)) (sym (as_every_table u c a.second))
      (subst (λ (n : ℕ). AnswersAlike (reply t c) (answer n u c)) (ap (λ (l : List Slot). refusal (rules l c)) a.records) (by_number (refusal (rules (counted t) c)) c))

sequences-alike : (t u : Table) → Alike t u → (cs : List TableCall) → AllAlike (answers t cs) (answers_over u cs)
sequences-alike t u a [] = none
sequences-alike t u a (c ∷ cs) =
    let here = calls-alike t u a c in
    next here (sequences-alike (reply t c).table (reply_over u c).table here.table cs)

-- the slots that count of a cleared memory are blank
cleared-all : (n : ℕ) (l : List Slot) → n ≤ length l → take n (cleared n l) ≡ replicate n free
unfolding cleared
cleared-all zero l h = refl
cleared-all (suc n) [] h = absurd (omega arith)
cleared-all (suc n) (x ∷ l) h = ap (λ (r : List Slot). free ∷ r) (cleared-all n l (omega arith))

module _ (run : List Slot) (v : StartValues) (small : v.max ≤ 65) (long : too_short v.max run ≡ false) where
  same-rules : refusal (start_values 65 v) ≡ refusal (start_rules_over run v)
  unfolding start_values
  same-rules =
      let by_value : leb v.max 65 ≡ true = le-leb v.max 65 small in
      let over-a-run : leb v.max 4093 ≡ true = le-leb v.max 4093 (omega arith) in
      rw (by_value) (rw (start-long-enough run v long) (rw over-a-run refl))

  fresh-alike : Alike (fresh value_slots v) (over (fresh_head v) (cleared (v.max - 1) run))
  unfolding fresh
  fresh-alike =
      let n = v.max - 1 in
      let room : n ≤ length run = ltb-false (length run) n long in
      let room-by-value : n ≤ length value_slots = omega (arith, length-replicate 64 free) in
      record {
        own = refl;
        max = refl;
        tvl = refl;
        dgvl = refl;
        area = refl;
        records = cleared-all n value_slots room-by-value ∙ sym (cleared-all n run room);
        first = le-ltb (length (cleared n value_slots)) n (omega (arith, cleared-length n value_slots));
        second = le-ltb (length (cleared n run)) n (omega (arith, cleared-length n run));
      }

  by_start : (n : ℕ) → (begin n value_slots v).number ≡ 0
      → (h : Head) × ((begin_over n run v).head ≡ Some h) × Alike (begin n value_slots v).table (over h (begin_over n run v).run)
  by_start zero e = (fresh_head v, refl, fresh-alike)
  by_start (suc n) e = absurd (omega arith)

  number-alike : (n : ℕ) → (begin n value_slots v).number ≡ (begin_over n run v).number
  number-alike zero = refl
  number-alike (suc n) = refl

  starts-alike : StartsAlike run v
  unfolding start start_over
  starts-alike =
      let n = refusal (start_values 65 v) in
      record {
        number = number-alike n ∙ ap (λ (m : ℕ). (begin_over m run v).number) same-rules;
        table = λ e.
            subst (λ (m : ℕ). (h : Head) × ((begin_over m run v).head ≡ Some h) × Alike (begin n value_slots v).table (over h (begin_over m run v).run)) same-rules
            (by_start n e);
      }

pub layouts_alike : LayoutsAlike
layouts_alike = record { starts = starts-alike; calls = calls-alike; sequences = sequences-alike }
