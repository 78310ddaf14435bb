-- A number and its digits in a base, highest first: a MID's MAC bytes, big-endian numbers and the bits of bytes are its cases.
use Rattle.std.specs.Prelude.{ℕ, zero, suc, ◌+◌, ◌*◌, ◌/◌, ◌%◌, ◌^◌, List, [], ◌∷◌, ◌++◌, length}

-- the lowest w digits of n in base b
unfoldable pub digits : ℕ → ℕ → ℕ → List ℕ
digits b zero n = []
digits b (suc w) n = n / b ^ w % b ∷ digits b w n

unfoldable pub number : ℕ → List ℕ → ℕ
number b [] = 0
number b (d ∷ ds) = d * b ^ length ds + number b ds

abbrev pub big_endian : List ℕ → ℕ
big_endian = number 256

-- mid-number: 48 bits, as six bytes, highest first
abbrev pub mac : ℕ → List ℕ
mac m = digits 256 6 m

unfoldable pub bits : List ℕ → List ℕ
bits [] = []
bits (x ∷ xs) = digits 2 8 x ++ bits xs
