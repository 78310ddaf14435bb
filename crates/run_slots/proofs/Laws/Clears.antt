-- The first records blank and the rest as they were: that is the run with the first records cleared.
use Prim.Native.Nat.{ℕ, zero, suc, min}
use native.Mathlib.Omega.{arith}
use mathlib.Core.Path.{◌≡◌, refl, ap}
use mathlib.Core.List.{List, [], ◌∷◌, ◌++◌}
use lib.ListN.{length, drop, replicate}
use Rattle.links.specs.declared.Slot.{Slot}
use Rattle.links.specs.Slots.{free}
use Rattle.links.specs.Calls.{cleared}

pub cleared_by_fill : (count n : ℕ) (run : List Slot) → n ≡ min count (length run) → replicate n free ++ drop n run ≡ cleared count run
unfolding cleared
cleared_by_fill zero zero run e = refl
cleared_by_fill zero (suc n) run e = absurd (omega (arith, e))
cleared_by_fill (suc count) zero [] e = refl
cleared_by_fill (suc count) zero (x ∷ run) e = absurd (omega (arith, e))
cleared_by_fill (suc count) (suc n) [] e = absurd (omega (arith, e))
cleared_by_fill (suc count) (suc n) (x ∷ run) e = ap (λ (l : List Slot). free ∷ l) (cleared_by_fill count n run (omega (arith, e)))
