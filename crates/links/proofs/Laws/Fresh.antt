-- The fresh table: its slots are blank.
use Prim.Native.Nat.{ℕ, zero, suc}
use mathlib.Core.Path.{◌≡◌, refl, ap}
use mathlib.Core.List.{List, ◌∷◌}
use lib.ListN.{replicate}
use Rattle.links.specs.declared.Slot.{Slot}
use Rattle.links.specs.Slots.{free}
use Rattle.links.specs.Calls.{cleared}

-- blank slots stay blank
pub cleared-free : (n m : ℕ) → cleared n (replicate m free) ≡ replicate m free
unfolding cleared
cleared-free zero m = refl
cleared-free (suc n) zero = refl
cleared-free (suc n) (suc m) = ap (λ (l : List Slot). free ∷ l) (cleared-free n m)
