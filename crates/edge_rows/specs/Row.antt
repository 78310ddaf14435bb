-- A row of the edge cases: what the definitions give, and what the rules say.
use Rattle.std.specs.Prelude.{ℕ, ◌≡◌, Bool, true, false, List, [], ◌∷◌}

pub record Row : Type 0 where
  pub got : List ℕ
  pub want : List ℕ

infix 18 ◌are◌
infix 18 ◌is◌
abbrev pub ◌are◌ : List ℕ → List ℕ → Row
xs are ys = record { got = xs; want = ys }

abbrev pub ◌is◌ : ℕ → ℕ → Row
x is y = (x ∷ []) are (y ∷ [])

-- each row holds
abbrev pub Hold : List Row → Type 0
Hold [] = Unit {0}
Hold (r ∷ rs) = (r.got ≡ r.want) × Hold rs

-- what a row says of a test: 1 where it holds
abbrev pub says : Bool → ℕ
says true = 1
says false = 0
