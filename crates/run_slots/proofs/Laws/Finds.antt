-- What the library's `position` finds is the first slot that passes.
use Prim.Native.Nat.{suc, ◌+◌}
use native.Mathlib.Omega.{arith}
use mathlib.Core.Path.{◌≡◌, refl}
use mathlib.Core.Bool.{Bool, true, false, cond, not}
use mathlib.Core.List.{List, [], ◌∷◌}
use Rattle.std.specs.List.{position, position_or_len}
use Rattle.links.specs.declared.Slot.{Slot}
use Rattle.links.specs.Slots.{place}
use Rattle.links.proofs.Laws.Search.{any_place}
use Rattle.search.specs.Search.{found_in}

place_is : (q : Slot → Bool) (l : List Slot) → position_or_len q l ≡ place q l
unfolding place
place_is q [] = refl
place_is q (x ∷ l) = go (q x) (place_is q l)
  where
    go : (t : Bool) → position_or_len q l ≡ place q l → cond (not t) (1 + position_or_len q l) 0 ≡ cond t 0 (suc (place q l))
    go true e = refl
    go false e = omega (arith, e)

pub found_by_position : (l : List Slot) (q : Slot → Bool) → position q l ≡ found_in l q
found_by_position l q = rw (any_place q l, place_is q l)
