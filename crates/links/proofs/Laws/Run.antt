-- A table over a run answers as every table does, unless the run is too short; and no table that calls reach has one that is.
use Prim.Native.Nat.{ℕ, ◌-◌}
use native.Mathlib.Omega.{arith}
use mathlib.Core.Path.{◌≡◌, refl, sym, ◌∙◌, ap}
use mathlib.Core.Bool.{false}
use mathlib.Core.List.{List, [], ◌++◌}
use lib.Dec.{lit<}
use lib.ListN.{length, length-take}
use borrow.Author.Tests.{le-ltb}
use Rattle.replies.specs.Rules.{Rule, ◌if◌, ◌then◌, refusal}
use Rattle.replies.specs.Promise.{DeterminesBoth}
use Rattle.replies.proofs.Laws.Refusals.{Numbered, numbered_append, passed_over, refusal-again}
use Rattle.std.specs.Prelude.{Option, Some, Result}
use Rattle.replies.specs.declared.Refusal.{Refusal}
use Rattle.replies.specs.Numbers.{reply_number}
use Rattle.replies.proofs.Laws.Numbers.{same_reply}
use Rattle.links.specs.declared.Head.{Head}
use Rattle.links.specs.declared.LinkIndex.{LinkIndex}
use Rattle.links.specs.Replies.{Reply, link_given, head_given}
use Rattle.links.specs.declared.Slot.{Slot}
use Rattle.links.specs.declared.StartValues.{StartValues}
use Rattle.links.specs.declared.Table.{Table}
use Rattle.links.specs.Settings.{settings_values, ground_rules, settings_rules}
use Rattle.links.specs.Slots.{counted}
use Rattle.links.specs.Calls.{TableCall, enable, disable, set_area, set_own, slot_rules, rules, answer, reply, start_values}
use Rattle.links.specs.Reached.{Reached}
use Rattle.links.specs.Run.{head_of, too_short, values_of, rules_over, reply_over, Left, start_rules_over, Started, Begins}
use Rattle.links.proofs.Laws.Replies.{values_numbered, numbered, start_numbered}
use Rattle.links.proofs.Laws.Sound.{sound}

pub calls-values_numbered : (c : TableCall) → Numbered (values_of c)
calls-values_numbered (enable s) = values_numbered s
calls-values_numbered (disable i) = tt
calls-values_numbered (set_area a) = tt
calls-values_numbered (set_own m) = (lit< tt, tt)

pub numbered_over : (t : Table) (c : TableCall) → Numbered (rules_over t c)
unfolding rules_over
numbered_over t c = numbered_append (values_of c) (23 if too_short t.max t.slots then rules (counted t) c) (calls-values_numbered c) (lit< tt, numbered (counted t) c)

pub start_over_numbered : (run : List Slot) (v : StartValues) → Numbered (start_rules_over run v)
unfolding start_rules_over
start_over_numbered run v = numbered_append (start_values 4093 v) (23 if too_short v.max run then []) (start_numbered 4093 v) (lit< tt, tt)

-- a call's own list begins with its values
values-first : (l : List Slot) (c : TableCall) → (rest : List Rule) × (rules l c ≡ values_of c ++ rest)
unfolding rules settings_rules settings_values
values-first l (enable s) = (ground_rules s ++ slot_rules l s, refl)
values-first l (disable i) = (rules l (disable i), refl)
values-first l (set_area a) = (rules l (set_area a), refl)
values-first l (set_own m) = ([], refl)

pub long-enough : (t : Table) (c : TableCall) → too_short t.max t.slots ≡ false → refusal (rules_over t c) ≡ refusal (rules (counted t) c)
unfolding rules_over
long-enough t c e =
    let l = counted t in
    let first = values-first l c in
    passed_over (values_of c) (rules l c) 23 (too_short t.max t.slots) e
    ∙ ap (λ (rs : List Rule). refusal (values_of c ++ rs)) first.1
    ∙ refusal-again (values_of c) first.0 (calls-values_numbered c)
    ∙ sym (ap refusal first.1)

pub as_every_table : (t : Table) (c : TableCall) → too_short t.max t.slots ≡ false → reply_over t c ≡ reply t c
unfolding reply_over reply
as_every_table t c e = ap (λ (n : ℕ). answer n t c) (long-enough t c e)

pub start-long-enough : (run : List Slot) (v : StartValues) → too_short v.max run ≡ false → refusal (start_rules_over run v) ≡ refusal (start_values 4093 v)
unfolding start_rules_over start_values
start-long-enough run v e = passed_over (start_values 4093 v) [] 23 (too_short v.max run) e

pub reached_long : {most : ℕ} {memory : List Slot} {t : Table} → Reached most memory t → too_short t.max t.slots ≡ false
reached_long {t = t} r =
    let room : length (counted t) ≡ t.max - 1 = (sound r).room in
    le-ltb (length t.slots) (t.max - 1) (omega (arith, length-take (t.max - 1) t.slots, room))

-- answers that give the same number and link are the same
same_answer : (a b : Result (Option LinkIndex) Refusal) → reply_number a ≡ reply_number b → link_given a ≡ link_given b → a ≡ b
same_answer a b number link = same_reply a b number (λ x y p q. ap link_given (sym p) ∙ link ∙ ap link_given q)

same_start : (a b : Result Head Refusal) → reply_number a ≡ reply_number b → head_given a ≡ head_given b → a ≡ b
same_start a b number head = same_reply a b number (λ x y p q. let same : Some x ≡ Some y = ap head_given (sym p) ∙ head ∙ ap head_given q in cc)

-- what a call over a run promises determines its reply and the run that it leaves
pub left_determined : (q : Reply) → DeterminesBoth (Left q)
left_determined q r s run left p e =
    let same = p ∙ sym e in
    let answer = same_answer r.answer s.answer (ap (λ (x : Reply). x.number) same) (ap (λ (x : Reply). x.link) same) in
    let table = ap (λ (x : Reply). x.table) same in
    (λ i. record { answer = answer i; head = head_of (table i) }, ap (λ (t : Table). t.slots) table)

pub begins_determined : (q : Started) → DeterminesBoth (Begins q)
begins_determined q r s run left p e =
    let same = p ∙ sym e in
    (same_start r s (ap (λ (x : Started). x.number) same) (ap (λ (x : Started). x.head) same), ap (λ (x : Started). x.run) same)
