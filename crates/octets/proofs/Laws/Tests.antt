-- Tests: their cases, and when two give the same answer. For a conjunction, `simp and-eq-true_iff`.
use Prim.Native.Nat.{ℕ}
use mathlib.Core.Path.{◌≡◌, refl, sym, ◌∙◌}
use mathlib.Core.Bool.{Bool, true, false, true≢false}
use lib.Dec.{eqb}
use borrow.Author.Tests.{eq-eqb}

pub clash {ℓ} : {C : Type ℓ} {t : Bool} → t ≡ true → t ≡ false → C
clash p q = absurd (true≢false (sym p ∙ q))

-- two tests that pass together are one
pub alike : (s t : Bool) → (s ≡ true → t ≡ true) → (t ≡ true → s ≡ true) → s ≡ t
alike true t f g = sym (f refl)
alike false true f g = g refl
alike false false f g = refl

pub eqb_self : (n : ℕ) → eqb n n ≡ true
eqb_self n = eq-eqb n n refl
