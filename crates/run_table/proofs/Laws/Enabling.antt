-- An enable, where its values and the length of the run refuse nothing: what its ground, the enabled links and the unused slots do.
use Rattle.std.specs.Prelude.{ℕ, ◌<◌, ◌≡◌, refl, Bool, true, false, cond, not, ◌||◌, List, [], Option, Some, None, length, set, Ok, Err}
use mathlib.Core.Path.{sym, ◌∙◌, ap, subst}
use borrow.Author.Tests.{ltb-true}
use Rattle.links.proofs.Laws.Search.{any_place}
use Rattle.std.proofs.Math.Bool.{or_comm}
use Rattle.std.specs.Option.{is_some}
use lib.Dec.{lit<}
use Rattle.replies.specs.declared.Refusal.{Refusal}
use Rattle.replies.specs.declared.Refusal.TheVariants.{NoIndexFree}
use Rattle.replies.specs.Numbers.{number_of}
use Rattle.replies.specs.Rules.{refusal, ◌if◌, ◌then◌}
use Rattle.replies.proofs.Laws.Numbers.{first_refuses, next_decides}
use Rattle.area.specs.Area.{same_area}
use Rattle.prefixes.specs.Prefixes.{overlapping, overlap_within}
use Rattle.links.specs.declared.Head.{Head}
use Rattle.links.specs.declared.Settings.{Settings}
use Rattle.links.specs.declared.Slot.{Slot}
use Rattle.links.specs.Settings.{settings_values, ground_rules, settings_rules, same_ground, overlaps, overlaps_itself, stored}
use Rattle.links.specs.Slots.{index_at, in_use, counted, any, place, unused, with}
use Rattle.links.specs.Calls.{enable, slot_rules, rules, link_after, table_after}
use Rattle.links.specs.Run.{over, too_short, reply_over, Left}
use Rattle.links.proofs.Laws.Replies.{values_numbered, settings_numbered}
use Rattle.search.specs.Search.{found_in}
use Rattle.run_table.specs.Parts.{apart_rules}
use Rattle.run_table.proofs.Laws.Refused.{by_own, done}

-- the slots' rules: those of the enabled links, and then 6
next_of_slots : (l : List Slot) (s : Settings) (n : ℕ) → 0 ≡ refusal (apart_rules l s) → n ≡ refusal (6 if not (any unused l) then []) → n ≡ refusal (slot_rules l s)
unfolding slot_rules apart_rules
next_of_slots l s n apart e = next_decides (apart_rules l s) (6 if not (any unused l) then []) n (lit< tt, (lit< tt, tt)) apart e

first_of_slots : (l : List Slot) (s : Settings) (e : Refusal) → number_of e ≡ refusal (apart_rules l s) → number_of e ≡ refusal (slot_rules l s)
unfolding slot_rules apart_rules
first_of_slots l s e n = first_refuses (apart_rules l s) (6 if not (any unused l) then []) e n

-- what was found of the area, and what is known of the prefixes, tell what the enabled links refuse
pub ground_found : (l : List Slot) (s : Settings) (q : Slot → Bool) (o : Option ℕ) → q ≡ with (λ r. same_area r.area s.area) → o ≡ found_in l q
    → is_some o ≡ any (with (λ r. same_ground r s)) l
unfolding same_ground
ground_found l s q o asked found = rw (found, asked) (go (any (with (λ r. same_area r.area s.area)) l))
  where
    go : (b : Bool) → is_some (cond b (Some (place (with (λ r. same_area r.area s.area)) l)) None) ≡ b
    go true = refl
    go false = refl

pub links_refuse : (l : List Slot) (s : Settings) (used within others : Bool)
    → used ≡ any (with (λ r. same_ground r s)) l → within ≡ overlap_within s.prefixes → others ≡ any (with (λ r. overlapping r.prefixes s.prefixes)) l
    → refusal (4 if used then 5 if (within || others) then []) ≡ refusal (apart_rules l s)
unfolding apart_rules overlaps overlaps_itself
links_refuse l s used within others u w o = rw (← u, ← w, ← o) (ap (λ (b : Bool). refusal (4 if used then 5 if b then [])) (or_comm within others))

-- whether a slot passes, and the place of the first that does
none_found : (q : Slot → Bool) (l : List Slot) → found_in l q ≡ None → any q l ≡ false
none_found q l e = go (any q l) e
  where
    go : (b : Bool) → cond b (Some (place q l)) None ≡ None → b ≡ false
    go true e = cc
    go false e = refl

one_found : (q : Slot → Bool) (l : List Slot) (k : ℕ) → found_in l q ≡ Some k → (any q l ≡ true) × (place q l ≡ k)
one_found q l k e = go (any q l) e
  where
    go : (b : Bool) → cond b (Some (place q l)) None ≡ Some k → (b ≡ true) × (place q l ≡ k)
    go true e = (refl, cc)
    go false e = cc

pub found_within : (q : Slot → Bool) (l : List Slot) (k : ℕ) → found_in l q ≡ Some k → k < length l
found_within q l k e =
    let f = one_found q l k e in
    subst (λ (j : ℕ). j < length l) f.1 (ltb-true (place q l) (length l) (sym (any_place q l) ∙ f.0))

module _ (h : Head) (run : List Slot) (s : Settings)
    (values : 0 ≡ refusal (settings_values s)) (enough : 0 ≡ refusal (23 if too_short h.max run then [])) where
  abbrev l : List Slot
  l = counted (over h run)

  both : (n : ℕ) → n ≡ refusal (ground_rules s) → n ≡ refusal (settings_rules s)
  unfolding settings_rules
  both n e = next_decides (settings_values s) (ground_rules s) n (values_numbered s) values e

  pub by_ground : (e : Refusal) → number_of e ≡ refusal (ground_rules s) → Left (reply_over (over h run) (enable s)) (record { answer = Err e; head = h }) run
  unfolding rules
  by_ground e n = by_own h run (enable s) enough e (first_refuses (settings_rules s) (slot_rules l s) e (both (number_of e) n))

  module _ (ground : 0 ≡ refusal (ground_rules s)) where
    slots_decide : (n : ℕ) → n ≡ refusal (slot_rules l s) → n ≡ refusal (rules l (enable s))
    unfolding rules
    slots_decide n e = next_decides (settings_rules s) (slot_rules l s) n (settings_numbered s) (both 0 ground) e

    pub by_links : (e : Refusal) → number_of e ≡ refusal (apart_rules l s) → Left (reply_over (over h run) (enable s)) (record { answer = Err e; head = h }) run
    by_links e n = by_own h run (enable s) enough e (slots_decide (number_of e) (first_of_slots l s e n))

    module _ (apart : 0 ≡ refusal (apart_rules l s)) where
      pub none_free : found_in l unused ≡ None → Left (reply_over (over h run) (enable s)) (record { answer = Err NoIndexFree; head = h }) run
      none_free e = by_own h run (enable s) enough NoIndexFree (slots_decide 6 (next_of_slots l s 6 apart (rw (none_found unused l e) refl)))

      pub takes : (k : ℕ) → found_in l unused ≡ Some k
          → Left (reply_over (over h run) (enable s)) (record { answer = Ok (Some (index_at k)); head = h }) (set run k (in_use (stored s)))
      unfolding link_after table_after
      takes k e =
          let f = one_found unused l k e in
          rw (← f.1) (done h run (enable s) enough (slots_decide 0 (next_of_slots l s 0 apart (rw f.0 refl))))
