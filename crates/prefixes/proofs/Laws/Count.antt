-- Four places and a count: what a list by the count comes to, by the tests of the count against each place.
use Prim.Native.Nat.{ℕ, zero, suc, ◌<◌}
use native.Mathlib.Omega.{arith}
use mathlib.Core.Path.{◌≡◌, refl}
use mathlib.Core.Bool.{Bool, true, false, cond, ◌&&◌, ◌||◌, and-false, and-true, and_assoc, or-false, or-true, or_assoc}
use mathlib.Core.List.{List, [], ◌∷◌}
use lib.Dec.{ltb}
use lib.ListN.{take}
use borrow.Author.Tests.{lt-ltb}
use Rattle.prefix.specs.declared.Prefix.{Prefix}
use Rattle.prefix.specs.Prefix.{no_prefix, overlap}
use Rattle.prefixes.specs.Prefixes.{any_of, all_of, within, of_four}

-- a count, and whether the first place is below it, the second, the third, the last
pub data Count : ℕ → Bool → Bool → Bool → Bool → Type 0 where
  none : Count zero false false false false
  one : Count (suc zero) true false false false
  two : Count (suc (suc zero)) true true false false
  three : Count (suc (suc (suc zero))) true true true false
  four : Count (suc (suc (suc (suc zero)))) true true true true
  more : {n : ℕ} → Count (suc (suc (suc (suc (suc n))))) true true true true

pub count : (n : ℕ) → Count n (ltb 0 n) (ltb 1 n) (ltb 2 n) (ltb 3 n)
count zero = none
count (suc zero) = one
count (suc (suc zero)) = two
count (suc (suc (suc zero))) = three
count (suc (suc (suc (suc zero)))) = four
count (suc (suc (suc (suc (suc n))))) =
    let m = suc (suc (suc (suc (suc n)))) in
    rw (lt-ltb 0 m (omega arith), lt-ltb 1 m (omega arith), lt-ltb 2 m (omega arith), lt-ltb 3 m (omega arith)) more

-- one of four that passes is enough
pub one-of_four : (q : ℕ → Bool) (k : ℕ) → k < 4 → q k ≡ true → (q 0 || (q 1 || (q 2 || q 3))) ≡ true
one-of_four q zero h e = rw e
one-of_four q (suc zero) h e = rw e (or-true (q 0))
one-of_four q (suc (suc zero)) h e = rw (e, or-true (q 1)) (or-true (q 0))
one-of_four q (suc (suc (suc zero))) h e = rw (e, or-true (q 2), or-true (q 1)) (or-true (q 0))
one-of_four q (suc (suc (suc (suc k)))) h e = absurd (omega arith)

-- one of four that fails is too
pub fails-of_four : (q : ℕ → Bool) (k : ℕ) → k < 4 → q k ≡ false → (q 0 && q 1 && q 2 && q 3) ≡ false
fails-of_four q zero h e = rw e
fails-of_four q (suc zero) h e = rw (e, and-false (q 0))
fails-of_four q (suc (suc zero)) h e = rw (e, and-false (q 0 && q 1))
fails-of_four q (suc (suc (suc zero))) h e = rw (e, and-false (q 0 && q 1 && q 2))
fails-of_four q (suc (suc (suc (suc k)))) h e = absurd (omega arith)

-- none overlaps nothing
pub overlap-none : (p : Prefix) → overlap p no_prefix ≡ false
unfolding overlap
overlap-none p = rw (and-false (ltb 0 p.len))

pub none-overlap : (p : Prefix) → overlap no_prefix p ≡ false
unfolding overlap
none-overlap p = refl

module _ (a b c d : Prefix) where
  abbrev first : ℕ → List Prefix
  first n = take n (a ∷ b ∷ c ∷ d ∷ [])

  -- blank places past the count change nothing
  pub blanked : {n : ℕ} {i j k l : Bool} → Count n i j k l
      → take n (cond i a no_prefix ∷ cond j b no_prefix ∷ cond k c no_prefix ∷ cond l d no_prefix ∷ []) ≡ first n
  blanked none = refl
  blanked one = refl
  blanked two = refl
  blanked three = refl
  blanked four = refl
  blanked more = refl

  -- nor does it to blank them twice
  pub blanked_twice : {n : ℕ} {i j k l : Bool} → Count n i j k l
      → (let at : Bool → Prefix → Prefix = λ t p. cond t p no_prefix in
      of_four n (at i (at i a)) (at j (at j b)) (at k (at k c)) (at l (at l d)) ≡ of_four n (at i a) (at j b) (at k c) (at l d))
  blanked_twice none = refl
  blanked_twice one = refl
  blanked_twice two = refl
  blanked_twice three = refl
  blanked_twice four = refl
  blanked_twice more = refl

  pub any-first : (q : Prefix → Bool) {n : ℕ} {i j k l : Bool} → Count n i j k l
      → any_of q (first n) ≡ ((i && q a) || ((j && q b) || ((k && q c) || (l && q d))))
  unfolding any_of
  any-first q none = refl
  any-first q one = refl
  any-first q two = refl
  any-first q three = refl
  any-first q four = rw (or-false (q d))
  any-first q more = rw (or-false (q d))

  pub all_first : (q : Prefix → Bool) {n : ℕ} {i j k l : Bool} → Count n i j k l
      → all_of q (first n) ≡ (cond i (q a) true && cond j (q b) true && cond k (q c) true && cond l (q d) true)
  unfolding all_of
  all_first q none = refl
  all_first q one = simp and-true
  all_first q two = simp and-true
  all_first q three = simp (and-true, and_assoc)
  all_first q four = simp (and-true, and_assoc)
  all_first q more = simp (and-true, and_assoc)

  -- of a test that none does not pass
  pub any_blanked : (q : Prefix → Bool) → q no_prefix ≡ false → {n : ℕ} {i j k l : Bool} → Count n i j k l
      → any_of q (first n) ≡ (q (cond i a no_prefix) || (q (cond j b no_prefix) || (q (cond k c no_prefix) || q (cond l d no_prefix))))
  unfolding any_of
  any_blanked q e none = rw e
  any_blanked q e one = rw e
  any_blanked q e two = rw e
  any_blanked q e three = rw e
  any_blanked q e four = rw (or-false (q d))
  any_blanked q e more = rw (or-false (q d))

  pub within_first : {n : ℕ} {i j k l : Bool} → Count n i j k l
      → (let p = cond i a no_prefix in
      let q = cond j b no_prefix in
      let r = cond k c no_prefix in
      let s = cond l d no_prefix in
      within (first n) ≡ (overlap p q || overlap p r || overlap p s || overlap q r || overlap q s || overlap r s))
  unfolding any_of within
  within_first none = simp none-overlap
  within_first one = simp (none-overlap, overlap-none)
  within_first two = simp (none-overlap, overlap-none, or-false)
  within_first three = simp (overlap-none, or-false, or_assoc)
  within_first four = simp (or-false, or_assoc)
  within_first more = simp (or-false, or_assoc)
