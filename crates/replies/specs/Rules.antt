-- RULES, Replies (reply-first): refusals are conditions with their numbers, in order, and the first that holds is given.
use Rattle.std.specs.Prelude.{ℕ, ◌<◌, ◌≡◌, ◌⊎◌, ◌↔◌, Bool, true, false, cond, List, [], ◌∷◌}

infix 22 ◌if◌
infixr 20 ◌then◌
pub record Rule : Type 0 where
  pub number : ℕ
  pub holds : Bool

abbrev pub ◌if◌ : ℕ → Bool → Rule
n if c = record { number = n; holds = c }

abbrev pub ◌then◌ : Rule → List Rule → List Rule
r then rs = r ∷ rs

-- the number of the first rule that holds; 0, done, where none does
abbrev pub refusal : List Rule → ℕ
refusal [] = 0
refusal (r ∷ rs) = cond r.holds r.number (refusal rs)

-- the rule with number n holds, and none before it
abbrev pub First : ℕ → List Rule → Type 0
First n [] = ⊥
First n (r ∷ rs) = ((r.holds ≡ true) × (r.number ≡ n)) ⊎ ((r.holds ≡ false) × First n rs)

-- no rule holds
abbrev pub NoneHolds : List Rule → Type 0
NoneHolds [] = Unit {0}
NoneHolds (r ∷ rs) = (r.holds ≡ false) × NoneHolds rs

-- each number is given exactly when its condition holds and no earlier one does, and 0 exactly when none holds
pub record Exact (rs : List Rule) (given : ℕ) : Type 0 where
  pub number : (n : ℕ) → 0 < n → (given ≡ n) ↔ First n rs
  pub done : (given ≡ 0) ↔ NoneHolds rs
