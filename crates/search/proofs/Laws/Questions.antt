-- What the questions ask, in the rules' words: for a ground, and for an address.
use Prim.Native.Nat.{ℕ}
use mathlib.Core.Path.{◌≡◌, sym, ap}
use mathlib.Core.Bool.{Bool}
use mathlib.Core.List.{List}
use Rattle.octets.proofs.Laws.Digits.{Below}
use Rattle.area.specs.declared.Area.{Area}
use Rattle.area.specs.Area.{normal, same_area}
use Rattle.prefix.specs.declared.Prefix.{Prefix}
use Rattle.prefix.specs.Prefix.{of_address}
use Rattle.links.specs.declared.Settings.{Settings}
use Rattle.links.specs.declared.Slot.{Slot}
use Rattle.links.specs.Settings.{reaches}
use Rattle.links.specs.Slots.{with}
use Rattle.links.proofs.Laws.Settings.{reaches_as_overlap}
use Rattle.search.specs.Search.{on_ground, overlapping}

-- the links that have the normal form of an area are those of the same ground
pub asks_the_ground : {n : Area} (a : Area) → n ≡ normal a → ◌≡◌ {A = Slot → Bool} (with (on_ground n)) (with (λ s. same_area s.area a))
unfolding same_area
asks_the_ground a e = ap (λ (n : Area). with (on_ground n)) e

-- the links with a prefix that overlaps an address alone are those that reach the address
pub address_asked : (a : List ℕ) → Below 256 a → ◌≡◌ {A = Slot → Bool} (with (overlapping (of_address a))) (with (λ s. reaches s a))
address_asked a bytes = ap with same
  where
    same : ◌≡◌ {A = Settings → Bool} (overlapping (of_address a)) (λ s. reaches s a)
    same i s = sym (reaches_as_overlap s a bytes) i
