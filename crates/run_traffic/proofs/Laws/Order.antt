-- A call's values refuse it first, then the length of the run (23), and then the rest.
use Rattle.std.specs.Prelude.{ℕ, ◌≡◌, Bool, List, [], ◌++◌}
use lib.Dec.{lit<}
use Rattle.replies.specs.declared.Refusal.{Refusal}
use Rattle.replies.specs.Numbers.{number_of}
use Rattle.replies.specs.Rules.{Rule, ◌if◌, ◌then◌, refusal}
use Rattle.replies.proofs.Laws.Refusals.{Numbered}
use Rattle.replies.proofs.Laws.Numbers.{first_refuses, next_decides}

module _ (values rest : List Rule) (short : Bool) where
  pub by_values : (e : Refusal) → number_of e ≡ refusal values → number_of e ≡ refusal (values ++ (23 if short then rest))
  by_values e n = first_refuses values (23 if short then rest) e n

  pub by_length : (e : Refusal) → Numbered values → 0 ≡ refusal values → number_of e ≡ refusal (23 if short then []) → number_of e ≡ refusal (values ++ (23 if short then rest))
  by_length e k z n = next_decides values (23 if short then rest) (number_of e) k z (first_refuses (23 if short then []) rest e n)

  pub by_rest : (n : ℕ) → Numbered values → 0 ≡ refusal values → 0 ≡ refusal (23 if short then []) → n ≡ refusal rest → n ≡ refusal (values ++ (23 if short then rest))
  by_rest n k z y f =
      next_decides values (23 if short then rest) n k z (next_decides (23 if short then []) rest n (lit< tt, tt) y f)
