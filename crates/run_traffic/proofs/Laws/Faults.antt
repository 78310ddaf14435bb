-- A refusal that `map_err` made a fault of was a refusal, and what it left alone was none.
use Rattle.std.specs.Prelude.{◌≡◌, Result, Ok, Err, IsErrAnd, MatchResult, refl}
use mathlib.Core.Path.{subst}
use Rattle.replies.specs.declared.Refusal.{Refusal}
use Rattle.replies.specs.Numbers.{reply_number}
use Rattle.traffic.specs.declared.Fault.{Fault}

module _ {A : Type 0} (made : Refusal → Fault → Type 0) (r : Result A Refusal) (s : Result A Fault) where
  pub refused : (f : Fault) → MatchResult r (λ x. s ≡ Ok x) (λ e. IsErrAnd s (made e)) → s ≡ Err f → (e : Refusal) × (r ≡ Err e) × made e f
  refused f m is = go r refl m
    where
      go : (z : Result A Refusal) → r ≡ z → MatchResult z (λ x. s ≡ Ok x) (λ e. IsErrAnd s (made e)) → (e : Refusal) × (r ≡ Err e) × made e f
      go (Ok x) was m = absurd cc
      go (Err e) was m = (e, was, subst (λ (z : Result A Fault). IsErrAnd z (made e)) is m)

  pub passed : (x : A) → MatchResult r (λ x. s ≡ Ok x) (λ e. IsErrAnd s (made e)) → s ≡ Ok x → 0 ≡ reply_number r
  passed x m is = go r m
    where
      go : (z : Result A Refusal) → MatchResult z (λ x. s ≡ Ok x) (λ e. IsErrAnd s (made e)) → 0 ≡ reply_number z
      go (Ok y) m = refl
      go (Err e) m = absurd (subst (λ (z : Result A Fault). IsErrAnd z (made e)) is m)
