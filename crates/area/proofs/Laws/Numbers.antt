-- Whole numbers: `eq_z` is equality, and so is the machine's comparison of 32 bits.
use Prim.Native.Nat.{ℕ, suc, ◌-◌, ◌^◌, ◌<◌}
use native.Mathlib.Omega.{arith}
use mathlib.Core.Path.{◌≡◌, refl, sym, ap}
use mathlib.Core.Bool.{Bool, true, false, ◌&&◌}
use lib.Dec.{eqb}
use lib.Signed.{le_z}
use lib.IntN.{ℤ, pos, negsuc}
use borrow.Author.Tests.{eqb-true, eqb-false, eq-eqb, ne_eqb}
use Rattle.std.proofs.Common.{Some}
use Rattle.std.specs.declared.ops.RangeInclusive.{RangeInclusive}
use Rattle.std.specs.Range.{range_inclusive_start, range_inclusive_end, range_inclusive_exhausted, range_inclusive_contains}
use Rattle.std.specs.Ordering.{int_cmp, int_eq, is_le}
use Rattle.std.proofs.lemmas.Bool.Decides.{nat_tests}
use mir.Syntax.{w32}
use mir.Val.{SFits, of_z}
use Rattle.octets.proofs.Laws.Tests.{clash, eqb_self}
use Rattle.area.specs.Area.{eq_z}

pub eq_z_self : (z : ℤ) → eq_z z z ≡ true
eq_z_self (pos n) = eqb_self n
eq_z_self (negsuc n) = eqb_self n

pub eq_z_true : (x y : ℤ) → eq_z x y ≡ true → x ≡ y
eq_z_true (pos m) (pos n) e = ap pos (eqb-true m n e)
eq_z_true (pos m) (negsuc n) e = clash e refl
eq_z_true (negsuc m) (pos n) e = clash e refl
eq_z_true (negsuc m) (negsuc n) e = ap negsuc (eqb-true m n e)

-- `==`, `<=` and ranges of the library
le_is : (x y : ℤ) → is_le (int_cmp x y) ≡ le_z x y
le_is (pos m) (pos n) = grind (arith, nat_tests)
le_is (pos m) (negsuc n) = refl
le_is (negsuc m) (pos n) = refl
le_is (negsuc m) (negsuc n) = grind (arith, nat_tests)

pub eq_is : (x y : ℤ) → int_eq x y ≡ eq_z x y
eq_is (pos m) (pos n) = grind (arith, nat_tests)
eq_is (pos m) (negsuc n) = refl
eq_is (negsuc m) (pos n) = refl
eq_is (negsuc m) (negsuc n) = grind (arith, nat_tests)

pub contains_is : (r : RangeInclusive ℤ) (low high z : ℤ) → range_inclusive_start r ≡ low → range_inclusive_end r ≡ high → range_inclusive_exhausted r ≡ false
    → range_inclusive_contains (λ x y. Some (int_cmp x y)) r z ≡ (le_z low z && le_z z high)
contains_is r low high z e f g = rw (e, f, g, le_is low z, le_is z high)

-- below zero the bits of a number are its distance from 2 ^ 32
below : (m n : ℕ) → m < 2 ^ 31 → n < 2 ^ 31 → (t : Bool) → eqb m n ≡ t → eqb (2 ^ 32 - suc m) (2 ^ 32 - suc n) ≡ t
below m n f g true e = eq-eqb (2 ^ 32 - suc m) (2 ^ 32 - suc n) (ap (λ (k : ℕ). 2 ^ 32 - suc k) (eqb-true m n e))
below m n f g false e = ne_eqb (2 ^ 32 - suc m) (2 ^ 32 - suc n) (λ q. eqb-false m n e (omega arith))

apart : (m n : ℕ) → m < 2 ^ 31 → n < 2 ^ 31 → m ≡ 2 ^ 32 - suc n → ⊥
apart m n f g q = omega arith

by_cases : (x y : ℤ) → SFits w32 x → SFits w32 y → eqb (of_z w32 x) (of_z w32 y) ≡ eq_z x y
by_cases (pos m) (pos n) f g = refl
by_cases (pos m) (negsuc n) f g = ne_eqb m (2 ^ 32 - suc n) (apart m n f.sfits g.sfits)
by_cases (negsuc m) (pos n) f g = ne_eqb (2 ^ 32 - suc m) n (λ q. apart n m g.sfits f.sfits (sym q))
by_cases (negsuc m) (negsuc n) f g = below m n f.sfits g.sfits (eqb m n) refl

-- `==` on two `i32` compares their bits
pub eq_bits : {x y : ℤ} → SFits w32 x → SFits w32 y → eqb (of_z w32 x) (of_z w32 y) ≡ eq_z x y
eq_bits {x} {y} f g = by_cases x y f g
