-- The slots that count: their number, and reading and replacing one.
use Prim.Native.Nat.{ℕ, zero, suc, ◌+◌, ◌-◌, ◌≤◌, ◌<◌, min}
use native.Mathlib.Omega.{arith}
use mathlib.Core.Path.{◌≡◌, refl, ◌∙◌, ap}
use mathlib.Core.Bool.{true, false}
use mathlib.Core.List.{List, [], ◌∷◌}
use lib.ListN.{length, get_or, length-take, get_or-eq_default}
use lib.Seq.{get_or-take}
use Rattle.octets.proofs.Laws.Tests.{clash}
use Rattle.links.specs.declared.LinkIndex.{LinkIndex}
use Rattle.links.specs.declared.Slot.{Slot}
use Rattle.links.specs.declared.Table.{Table}
use borrow.Author.Tests.{le-ltb}
use Rattle.links.specs.Slots.{is_fixed, index_at, place_of, free, counted, slot_at}

pub counted-length : (t : Table) (n : ℕ) → length t.slots ≡ n → length (counted t) ≡ min (t.max - 1) n
counted-length t n e = length-take (t.max - 1) t.slots ∙ ap (min (t.max - 1)) e

-- a slot that counts is read from the whole run
pub counted-at : (t : Table) (k : ℕ) (d : Slot) → k < length (counted t) → get_or (counted t) k d ≡ get_or t.slots k d
counted-at t k d h = get_or-take (t.max - 1) t.slots k d (omega (arith, simp length-take at h))

-- an enabled slot is one of the run
pub enabled_below : (l : List Slot) (k : ℕ) → (get_or l k free).enabled ≡ true → k < length l
enabled_below [] k e = clash e refl
enabled_below (x ∷ l) zero e = omega arith
enabled_below (x ∷ l) (suc k) e = let h = enabled_below l k e in omega arith

pub beyond : (l : List Slot) (k : ℕ) → length l ≤ k → get_or l k free ≡ free
beyond l k h = get_or-eq_default l free h

-- within the run the default is no matter
pub any_default : (l : List Slot) (k : ℕ) (d e : Slot) → k < length l → get_or l k d ≡ get_or l k e
any_default [] k d e h = absurd (omega arith)
any_default (x ∷ l) zero d e h = refl
any_default (x ∷ l) (suc k) d e h = any_default l k d e (omega arith)

-- the index of a slot is no fixed link's, and leads back to the slot
pub stop-index : (k : ℕ) → is_fixed (index_at k) ≡ false
stop-index k = le-ltb (k + 2) 2 (let stop : 2 ≤ k + 2 = omega arith in stop)

pub place_of-index : (k : ℕ) → place_of (index_at k) ≡ k
place_of-index k = omega arith

pub slot_of_stop : (l : List Slot) (i : LinkIndex) → is_fixed i ≡ false → slot_at l i ≡ get_or l (place_of i) free
slot_of_stop l i h = rw h
