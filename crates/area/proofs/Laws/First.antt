-- The normal form of a good area is the first of the areas that a chain joins.
use Prim.Native.Nat.{ℕ, zero, suc, ◌≤◌, ◌<◌, zero-le}
use native.Mathlib.Nat.{mod-le}
use native.Mathlib.Omega.{arith}
use mathlib.Core.Path.{◌≡◌, refl, sym, ap, subst}
use mathlib.Core.Logic.{◌⊎◌, inl, inr}
use mathlib.Core.Bool.{Bool, true, false, cond}
use mathlib.Core.List.{List, [], ◌∷◌}
use lib.Dec.{ltb, lit<}
use lib.IntN.{ℤ, pos, negsuc, neg_ℤ}
use lib.Signed.{lt_z}
use borrow.Author.Tests.{ltb-true, ltb-false, lt-ltb, le-ltb, ne_eqb}
use Rattle.octets.proofs.Laws.Tests.{clash}
use Rattle.area.specs.declared.Area.{Area}
use Rattle.area.specs.Area.{eq_z, normal_longitude, normal_by, normal}
use Rattle.area.specs.Ground.{Good, area, Chain, numbers, before, comes_before}
use Rattle.area.proofs.Laws.Numbers.{eq_z_self, eq_z_true}
use Rattle.area.proofs.Laws.Good.{good-shape}
use Rattle.area.proofs.Laws.Normal.{Sides, equal, less, more, sides, normal-kept}
use Rattle.area.proofs.Laws.Chains.{chain_good}

-- a list is the other, or comes before it
data UpTo : List ℤ → List ℤ → Type 0 where
  same : {l : List ℤ} → UpTo l l
  here : {m n : ℤ} {l k : List ℤ} → lt_z m n ≡ true → UpTo (m ∷ l) (n ∷ k)
  next : {m : ℤ} {l k : List ℤ} → UpTo l k → UpTo (m ∷ l) (m ∷ k)

less_apart : (m n : ℤ) → lt_z m n ≡ true → (lt_z n m ≡ false) × (eq_z n m ≡ false)
less_apart (pos m) (pos n) e = (le-ltb n m (omega (arith, ltb-true m n e)), ne_eqb n m (λ q. omega (arith, ltb-true m n e)))
less_apart (pos m) (negsuc n) e = clash e refl
less_apart (negsuc m) (pos n) e = (refl, refl)
less_apart (negsuc m) (negsuc n) e = (le-ltb m n (omega (arith, ltb-true n m e)), ne_eqb n m (λ q. omega (arith, ltb-true n m e)))

not_less : (m : ℤ) → lt_z m m ≡ false
not_less (pos m) = le-ltb m m (omega arith)
not_less (negsuc m) = le-ltb m m (omega arith)

not-before : {l k : List ℤ} → UpTo l k → before k l ≡ false
unfolding before
not-before {l} same = itself l
  where
    itself : (l : List ℤ) → before l l ≡ false
    itself [] = refl
    itself (m ∷ l) = rw (not_less m, eq_z_self m) (itself l)
not-before (here {m} {n} e) = rw ((less_apart m n e).0, (less_apart m n e).1)
not-before (next {m} u) = rw (not_less m, eq_z_self m) (not-before u)

is_or-before : {l k : List ℤ} → UpTo l k → (k ≡ l) ⊎ (before l k ≡ true)
unfolding before
is_or-before same = inl refl
is_or-before (here e) = inr (rw e)
is_or-before (next {m} {l} {k} u) = onward (is_or-before u)
  where
    onward : (k ≡ l) ⊎ (before l k ≡ true) → ((m ∷ k) ≡ (m ∷ l)) ⊎ (before (m ∷ l) (m ∷ k) ≡ true)
    onward (inl e) = inl (ap (λ (r : List ℤ). m ∷ r) e)
    onward (inr e) = inr (rw (not_less m, eq_z_self m, e))

-- a number that is no larger
no_larger : {m n : ℕ} {l k : List ℤ} → m ≤ n → UpTo l k → UpTo (pos m ∷ l) (pos n ∷ k)
no_larger {m} {n} {l} {k} f u = go (ltb m n) refl
  where
    go : (t : Bool) → ltb m n ≡ t → UpTo (pos m ∷ l) (pos n ∷ k)
    go true e = here e
    go false e =
        let is : m ≡ n = omega (arith, ltb-false m n e) in
        subst (λ (j : ℕ). UpTo (pos m ∷ l) (pos j ∷ k)) is (next u)

-- latitude and longitude, and what follows
from_centre : (y x : ℤ) {l k : List ℤ} → UpTo l k → UpTo (y ∷ normal_longitude x ∷ l) (y ∷ x ∷ k)
from_centre y x {l} {k} u = next (go (eq_z x (pos 1_800_000_000)) refl)
  where
    go : (t : Bool) → eq_z x (pos 1_800_000_000) ≡ t → UpTo (cond t (neg_ℤ (pos 1_800_000_000)) x ∷ l) (x ∷ k)
    go true e = subst (λ (z : ℤ). UpTo (neg_ℤ (pos 1_800_000_000) ∷ l) (z ∷ k)) (sym (eq_z_true x (pos 1_800_000_000) e)) (here refl)
    go false e = next u

module _ (s : ℕ) (y x : ℤ) (a b g : ℕ) where
  sides_up_to : {p q r t : Bool} → Sides a b p q r t → UpTo (numbers (normal_by false p q (area s y x a b g))) (numbers (area s y x a b g))
  unfolding normal_by
  sides_up_to (equal e) = next (from_centre y x (next (next (no_larger (mod-le g 90) same))))
  sides_up_to (less e) = next (from_centre y x (next (next (no_larger (mod-le g 180) same))))
  sides_up_to (more e) = next (from_centre y x (here (lt-ltb b a e)))

  -- an ellipse comes behind its circle
  axes_up_to : {p q r t : Bool} → 0 < s → Sides a b p q r t → UpTo (numbers (normal_by p p q (area s y x a b g))) (numbers (area s y x a b g))
  unfolding normal_by
  axes_up_to h (equal e) = here (lt-ltb 0 s h)
  axes_up_to h (less e) = sides_up_to (less e)
  axes_up_to h (more e) = sides_up_to (more e)

by_shape : (s : ℕ) (y x : ℤ) (a b g : ℕ) → s ≤ 2 → UpTo (numbers (normal (area s y x a b g))) (numbers (area s y x a b g))
unfolding normal normal_by
by_shape zero y x a b g h = next (from_centre y x (next (no_larger zero-le (no_larger zero-le same))))
by_shape (suc zero) y x a b g h = sides_up_to 1 y x a b g (sides a b)
by_shape (suc (suc zero)) y x a b g h = axes_up_to 2 y x a b g (lit< tt) (sides a b)
by_shape (suc (suc (suc s))) y x a b g h = absurd (omega arith)

up_to : (x : Area) → Good x → UpTo (numbers (normal x)) (numbers x)
up_to x ok = by_shape x.shape x.latitude x.longitude x.a x.b x.angle (good-shape ok)

-- the normal form of one end is that of the other
joined_up_to : {x y : Area} → Chain x y → UpTo (numbers (normal x)) (numbers y)
joined_up_to {x} {y} c = subst (λ (z : Area). UpTo (numbers z) (numbers y)) (sym (normal-kept c)) (up_to y (chain_good c).1)

numbers_injective : (x y : Area) → numbers x ≡ numbers y → x ≡ y
numbers_injective x y e =
    let shape : x.shape ≡ y.shape = cc in
    let latitude : x.latitude ≡ y.latitude = cc in
    let longitude : x.longitude ≡ y.longitude = cc in
    let a : x.a ≡ y.a = cc in
    let b : x.b ≡ y.b = cc in
    let angle : x.angle ≡ y.angle = cc in
    λ i. area (shape i) (latitude i) (longitude i) (a i) (b i) (angle i)

pub none_before_lem : (x y : Area) → Chain x y → comes_before y (normal x) ≡ false
none_before_lem x y c = not-before (joined_up_to c)

pub is_first : (x y : Area) → Chain x y → (y ≡ normal x) ⊎ (comes_before (normal x) y ≡ true)
is_first x y c = go (is_or-before (joined_up_to c))
  where
    go : (numbers y ≡ numbers (normal x)) ⊎ (comes_before (normal x) y ≡ true) → (y ≡ normal x) ⊎ (comes_before (normal x) y ≡ true)
    go (inl e) = inl (numbers_injective y (normal x) e)
    go (inr e) = inr e
