-- Runs of numbers: `same` is equality, and `all_zero` says so of each number.
use Prim.Native.Nat.{ℕ, zero, suc, ◌+◌, ◌-◌, ◌≤◌, ◌<◌, min}
use native.Mathlib.Nat.{sub-zero, zero-sub, suc-sub-suc}
use native.Mathlib.Omega.{arith}
use mathlib.Core.Path.{◌≡◌, refl, sym, ◌∙◌, ap, subst}
use mathlib.Core.Bool.{Bool, true, false, ◌&&◌, and-eq-true_iff, and_assoc}
use mathlib.Core.List.{List, [], ◌∷◌, ◌++◌, map}
use Rattle.std.proofs.lemmas.List.{drop-replicate}
use lib.Dec.{leb}
use lib.ListN.{length, get_or, take, drop, replicate, length-take, length-drop, length-replicate, length-map}
use lib.Seq.{take_all, drop-cons}
use borrow.Author.Tests.{eqb-true, leb-true, leb-false}
use Rattle.octets.specs.Runs.{same, all_zero}
use Rattle.octets.proofs.Laws.Tests.{clash, eqb_self}

pub same_true : (xs ys : List ℕ) → same xs ys ≡ true → xs ≡ ys
unfolding same
same_true [] [] e = refl
same_true [] (y ∷ ys) e = clash e refl
same_true (x ∷ xs) [] e = clash e refl
same_true (x ∷ xs) (y ∷ ys) e =
    let h = simp and-eq-true_iff at e in
    λ i. eqb-true x y h.0 i ∷ same_true xs ys h.1 i

pub same_self : (xs : List ℕ) → same xs xs ≡ true
unfolding same
same_self [] = refl
same_self (x ∷ xs) = rw (eqb_self x, same_self xs)

pub eq_same : (xs ys : List ℕ) → xs ≡ ys → same xs ys ≡ true
eq_same xs ys e = subst (λ (zs : List ℕ). same xs zs ≡ true) e (same_self xs)

pub same-append : (a b s t : List ℕ) → length a ≡ length b → same (a ++ s) (b ++ t) ≡ (same a b && same s t)
unfolding same
same-append [] [] s t e = refl
same-append [] (y ∷ b) s t e = absurd (let z : ⊥ = omega arith in z)
same-append (x ∷ a) [] s t e = absurd (let z : ⊥ = omega arith in z)
same-append (x ∷ a) (y ∷ b) s t e = rw (same-append a b s t (omega arith)) (simp and_assoc)

pub all_zero-append : (s t : List ℕ) → all_zero (s ++ t) ≡ (all_zero s && all_zero t)
unfolding all_zero
all_zero-append [] t = refl
all_zero-append (x ∷ s) t = rw (all_zero-append s t) (simp and_assoc)

pub all_zero-same : (l : List ℕ) → all_zero l ≡ same l (replicate (length l) 0)
unfolding all_zero same
all_zero-same [] = refl
all_zero-same (x ∷ l) = rw (all_zero-same l)

-- the end of a run is zero if it is the end of a run of as many zeros
pub all_zero_end : (n k : ℕ) (l : List ℕ) → length l ≡ n → all_zero (drop k l) ≡ same (take n (drop k l)) (take n (drop k (replicate n 0)))
all_zero_end n k l e =
    let left : length (drop k l) ≡ n - k = length-drop k l ∙ ap (λ (m : ℕ). m - k) e in
    rw (take_all n (drop k l) (omega arith), drop-replicate {X = ℕ} k n 0, take_all {A = ℕ} n (replicate (n - k) 0) (omega (arith, length-replicate {A = ℕ} (n - k) 0)), ← left)
    (all_zero-same (drop k l))

-- no more can be taken of a run than it has
pub take_min : (n m : ℕ) (l : List ℕ) → length l ≤ m → take (min n m) l ≡ take n l
take_min n m l h = go (leb n m) refl
  where
    go : (t : Bool) → leb n m ≡ t → take (min n m) l ≡ take n l
    go true e = rw (let s : min n m ≡ n = omega (arith, leb-true n m e) in s)
    go false e =
        let over : m < n = leb-false n m e in
        rw (let s : min n m ≡ m = omega arith in s, take_all m l h, take_all n l (omega arith))

-- what is taken of two runs one behind the other, and what is left of them
take-append : (n : ℕ) (a s : List ℕ) → take n (a ++ s) ≡ take n a ++ take (n - length a) s
take-append zero a s = rw (zero-sub (length a))
take-append (suc n) [] s = rw (sub-zero (suc n))
take-append (suc n) (x ∷ a) s = rw (suc-sub-suc n (length a), take-append n a s)

pub drop-append : (n : ℕ) (a s : List ℕ) → drop n (a ++ s) ≡ drop n a ++ drop (n - length a) s
drop-append zero a s = rw (zero-sub (length a))
drop-append (suc n) [] s = rw (sub-zero (suc n))
drop-append (suc n) (x ∷ a) s = rw (suc-sub-suc n (length a)) (drop-append n a s)

pub same-first-append : (n : ℕ) (a b s t : List ℕ) → length a ≡ length b
    → same (take n (a ++ s)) (take n (b ++ t)) ≡ (same (take n a) (take n b) && same (take (n - length a) s) (take (n - length a) t))
same-first-append n a b s t e =
    rw (take-append n a s, take-append n b t, same-append (take n a) (take n b) (take (n - length a) s) (take (n - length b) t) (rw (length-take n a, length-take n b, e)), e)

-- n elements of a run from place k on, one by one
abbrev pub spread : List ℕ → ℕ → ℕ → List ℕ
spread l k zero = []
spread l k (suc n) = get_or l k 0 ∷ spread l (suc k) n

pub part_spread : (l : List ℕ) (k n : ℕ) → k + n ≤ length l → take n (drop k l) ≡ spread l k n
part_spread l k zero h = refl
part_spread l k (suc n) h =
    rw (drop-cons l k 0 (let some : k < length l = omega arith in some), part_spread l (suc k) n (omega arith))

-- what owning an array of structs tells of its list
pub length_mapped : (X Y : Type 0) (f : X → Y) (l : List X) (n : ℕ) → length (map f l) ≡ n → length l ≡ n
length_mapped X Y f l n e = sym (length-map l f) ∙ e
