-- A promise that gives the reply as a value of the inputs determines it.
use mathlib.Core.Path.{◌≡◌, sym, ◌∙◌}
use Rattle.replies.specs.Promise.{Determines, DeterminesBoth}

pub determined : {A : Type 0} (a : A) → Determines (λ (r : A). r ≡ a)
determined a r s p q = p ∙ sym q

pub both_determined : {A B : Type 0} (a : A) (b : B) → DeterminesBoth (λ (r : A) (x : B). (r ≡ a) × (x ≡ b))
both_determined a b r s x y p q = (p.0 ∙ sym q.0, p.1 ∙ sym q.1)
