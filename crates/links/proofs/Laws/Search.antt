-- The search over slots: what `any` and `place` say of a run, and the law of every loop that looks for a slot.
use Prim.Native.Nat.{ℕ, zero, suc, ◌+◌, ◌≤◌, ◌<◌}
use native.Mathlib.Numerals.{add-one}
use native.Mathlib.Nat.{zero-add}
use native.Mathlib.Omega.{arith}
use mathlib.Core.Path.{◌≡◌, refl, sym, ◌∙◌, ap}
use mathlib.Core.Bool.{Bool, true, false, cond, ◌||◌}
use mathlib.Core.List.{List, [], ◌∷◌}
use lib.Dec.{ltb, leb-suc-suc}
use lib.ListN.{length, get_or, drop, drop_of_length-le}
use lib.Seq.{drop-cons}
use borrow.Author.Tests.{lt-ltb}
use Rattle.links.specs.declared.Slot.{Slot}
use Rattle.links.specs.Slots.{any, place}

-- there is one exactly if its place is one of the run
pub any_place : (q : Slot → Bool) (l : List Slot) → any q l ≡ ltb (place q l) (length l)
unfolding any place
any_place q [] = refl
any_place q (x ∷ l) = go (q x) (any_place q l)
  where
    go : (t : Bool) → any q l ≡ ltb (place q l) (length l) → (t || any q l) ≡ ltb (cond t zero (suc (place q l))) (suc (length l))
    go true e = sym (lt-ltb 0 (suc (length l)) (omega arith))
    go false e = e ∙ sym (leb-suc-suc (suc (place q l)) (length l))

pub place-within : (q : Slot → Bool) (l : List Slot) → place q l ≤ length l
unfolding place
place-within q [] = omega arith
place-within q (x ∷ l) = go (q x) (place-within q l)
  where
    go : (t : Bool) → place q l ≤ length l → cond t zero (suc (place q l)) ≤ suc (length l)
    go true h = omega arith
    go false h = omega arith

-- no slot before the place passes, and the one there does
pub before-place : (q : Slot → Bool) (l : List Slot) (j : ℕ) (d : Slot) → j < place q l → q (get_or l j d) ≡ false
unfolding place
before-place q [] j d h = absurd (omega arith)
before-place q (x ∷ l) j d h = go (q x) refl j h (λ i. before-place q l i d)
  where
    go : (t : Bool) → q x ≡ t → (j : ℕ) → j < cond t zero (suc (place q l)) → ((i : ℕ) → i < place q l → q (get_or l i d) ≡ false) → q (get_or (x ∷ l) j d) ≡ false
    go true e j h f = absurd (omega arith)
    go false e zero h f = e
    go false e (suc j) h f = f j (omega arith)

pub at_place : (q : Slot → Bool) (l : List Slot) (d : Slot) → place q l < length l → q (get_or l (place q l) d) ≡ true
unfolding place
at_place q [] d h = absurd (omega arith)
at_place q (x ∷ l) d h = go (q x) refl h (at_place q l d)
  where
    go : (t : Bool) → q x ≡ t → cond t zero (suc (place q l)) < suc (length l) → (place q l < length l → q (get_or l (place q l) d) ≡ true) → q (get_or (x ∷ l) (cond t zero (suc (place q l))) d) ≡ true
    go true e h f = e
    go false e h f = f (omega arith)

-- A loop that goes through the run: none of the first i slots passes.
pub record Looking (q : Slot → Bool) (l : List Slot) (n i : ℕ) : Type 0 where
  pub count : n ≡ length l
  pub at : i ≤ n
  pub rest : place q l ≡ i + place q (drop i l)

pub start : (q : Slot → Bool) (l : List Slot) {n : ℕ} → n ≡ length l → Looking q l n 0
start q l e = record { count = e; at = omega arith; rest = sym (zero-add (place q l)) }

module _ (q : Slot → Bool) (l : List Slot) {n i : ℕ} (k : Looking q l n i) (d : Slot) where
  turn : i < n → (t : Bool) → q (get_or l i d) ≡ t → place q l ≡ i + cond t zero (suc (place q (drop (suc i) l)))
  unfolding place
  turn h t e = k.rest ∙ ap (λ (j : ℕ). i + j) (rw (drop-cons l i d (let some : i < length l = omega arith in some), e))

  pub hit : i < n → q (get_or l i d) ≡ true → i ≡ place q l
  hit h e = omega (arith, turn h true e)

  pub pass : i < n → q (get_or l i d) ≡ false → Looking q l n (i + 1)
  pass h e = record { count = k.count; at = omega arith; rest = turn h false e ∙ rw (add-one i) (omega arith) }

  pub end : n ≤ i → i ≡ place q l
  unfolding place
  end h =
      let past : place q (drop i l) ≡ zero = rw (drop_of_length-le l (let all : length l ≤ i = omega arith in all)) in
      omega (arith, k.rest)
