-- What a promise determines: two replies that meet it are equal, and so is what they leave in a lent buffer.
use Rattle.std.specs.Prelude.{◌≡◌}

-- of the reply alone
abbrev pub Determines : {A : Type 0} → (A → Type 0) → Type 0
Determines {A} promise = (r s : A) → promise r → promise s → r ≡ s

-- of the reply and of a lent buffer
abbrev pub DeterminesBoth : {A B : Type 0} → (A → B → Type 0) → Type 0
DeterminesBoth {A} {B} promise = (r s : A) (b c : B) → promise r b → promise s c → (r ≡ s) × (b ≡ c)
