-- A call that is refused leaves all as it was, by which list of rules it is: that of its values, 23, or its own list. What none of them
-- refuses is done.
use Rattle.std.specs.Prelude.{ℕ, zero, suc, ◌≡◌, refl, ◌-◌, Bool, true, false, List, [], None, Ok, Err}
use mathlib.Core.Path.{sym, ◌∙◌, ap}
use Rattle.replies.specs.declared.Refusal.{Refusal}
use Rattle.replies.specs.declared.Refusal.TheVariants.{RunTooShort}
use Rattle.replies.specs.Numbers.{number_of}
use Rattle.replies.specs.Rules.{refusal, ◌if◌, ◌then◌}
use Rattle.replies.proofs.Laws.Numbers.{number-not_0, first_refuses, next_decides}
use Rattle.links.specs.declared.Head.{Head}
use Rattle.links.specs.declared.Slot.{Slot}
use Rattle.links.specs.declared.StartValues.{StartValues}
use Rattle.links.specs.Slots.{counted}
use Rattle.links.specs.Calls.{TableCall, rules, link_after, table_after, answer, start_values, cleared}
use Rattle.links.specs.Run.{over, too_short, values_of, rules_over, reply_over, Left, fresh_head, start_rules_over, begin_over, start_over, Begins}
use Rattle.links.proofs.Laws.Replies.{start_numbered}
use Rattle.links.proofs.Laws.Run.{calls-values_numbered, long-enough}

-- what 23 does not refuse is long enough
long : (short : Bool) → 0 ≡ refusal (23 if short then []) → short ≡ false
long true e = absurd (number-not_0 RunTooShort (sym e))
long false e = refl

module _ (h : Head) (run : List Slot) (c : TableCall) where
  pub refused : (e : Refusal) → number_of e ≡ refusal (rules_over (over h run) c) → Left (reply_over (over h run) c) (record { answer = Err e; head = h }) run
  unfolding reply_over
  refused e n = go (refusal (rules_over (over h run) c)) n
    where
      go : (m : ℕ) → number_of e ≡ m → record { number = number_of e; link = None; table = over h run } ≡ answer m (over h run) c
      go zero z = absurd (number-not_0 e z)
      go (suc m) z = ap (λ (k : ℕ). record { number = k; link = None; table = over h run }) z

  pub by_values : (e : Refusal) → number_of e ≡ refusal (values_of c) → Left (reply_over (over h run) c) (record { answer = Err e; head = h }) run
  unfolding rules_over
  by_values e n = refused e (first_refuses (values_of c) (23 if too_short h.max run then rules (counted (over h run)) c) e n)

  pub by_length : (e : Refusal) → 0 ≡ refusal (values_of c) → number_of e ≡ refusal (23 if too_short h.max run then [])
      → Left (reply_over (over h run) c) (record { answer = Err e; head = h }) run
  unfolding rules_over
  by_length e v n =
      let own = rules (counted (over h run)) c in
      refused e (next_decides (values_of c) (23 if too_short h.max run then own) (number_of e) (calls-values_numbered c) v
      (first_refuses (23 if too_short h.max run then []) own e n))

  -- where the run is long enough, its own list decides
  module _ (enough : 0 ≡ refusal (23 if too_short h.max run then [])) where
    its_own : refusal (rules_over (over h run) c) ≡ refusal (rules (counted (over h run)) c)
    its_own = long-enough (over h run) c (long (too_short h.max run) enough)

    pub by_own : (e : Refusal) → number_of e ≡ refusal (rules (counted (over h run)) c) → Left (reply_over (over h run) c) (record { answer = Err e; head = h }) run
    by_own e n = refused e (n ∙ sym its_own)

    pub done : 0 ≡ refusal (rules (counted (over h run)) c)
        → record { number = 0; link = link_after (counted (over h run)) c; table = table_after (over h run) c } ≡ reply_over (over h run) c
    unfolding reply_over
    done n = ap (λ (m : ℕ). answer m (over h run) c) (n ∙ sym its_own)

module _ (run : List Slot) (v : StartValues) where
  start_refused : (e : Refusal) → number_of e ≡ refusal (start_rules_over run v) → Begins (start_over run v) (Err e) run
  unfolding start_over
  start_refused e n = go (refusal (start_rules_over run v)) n
    where
      go : (m : ℕ) → number_of e ≡ m → record { number = number_of e; head = None; run = run } ≡ begin_over m run v
      go zero z = absurd (number-not_0 e z)
      go (suc m) z = ap (λ (k : ℕ). record { number = k; head = None; run = run }) z

  pub start-by_values : (e : Refusal) → number_of e ≡ refusal (start_values 4093 v) → Begins (start_over run v) (Err e) run
  unfolding start_rules_over
  start-by_values e n = start_refused e (first_refuses (start_values 4093 v) (23 if too_short v.max run then []) e n)

  -- behind the values, 23 decides
  module _ (values : 0 ≡ refusal (start_values 4093 v)) where
    next : (n : ℕ) → n ≡ refusal (23 if too_short v.max run then []) → n ≡ refusal (start_rules_over run v)
    unfolding start_rules_over
    next n e = next_decides (start_values 4093 v) (23 if too_short v.max run then []) n (start_numbered 4093 v) values e

    pub start-by_length : (e : Refusal) → number_of e ≡ refusal (23 if too_short v.max run then []) → Begins (start_over run v) (Err e) run
    start-by_length e n = start_refused e (next (number_of e) n)

    pub start_done : 0 ≡ refusal (23 if too_short v.max run then []) → Begins (start_over run v) (Ok (fresh_head v)) (cleared (v.max - 1) run)
    unfolding start_over
    start_done n = ap (λ (m : ℕ). begin_over m run v) (next 0 n)
