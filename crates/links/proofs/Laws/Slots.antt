-- Runs of slots: what is enabled in one after a slot is replaced or all are cleared, and what a failed search tells.
use Prim.Native.Nat.{ℕ, zero, suc, ◌-◌, ◌≤◌}
use native.Mathlib.Omega.{arith}
use mathlib.Core.Path.{◌≡◌, refl, sym, ◌∙◌, ap}
use mathlib.Core.Logic.{◌⊎◌, inl, inr}
use mathlib.Core.Bool.{Bool, true, false, cond, ◌||◌}
use mathlib.Core.List.{List, [], ◌∷◌}
use lib.ListN.{length, take, drop, set, get_or}
use Rattle.octets.proofs.Laws.Tests.{clash}
use Rattle.links.specs.declared.Settings.{Settings}
use Rattle.links.specs.declared.Slot.{Slot}
use Rattle.links.specs.declared.Table.{Table}
use Rattle.links.specs.Slots.{Has, free, in_use, counted, any, with, enabled_count}
use Rattle.links.specs.Calls.{cleared, with_slot}

pub free_has_none {ℓ} : {C : Type ℓ} (s : Settings) → free ≡ in_use s → C
free_has_none s e = clash (ap (λ (x : Slot). x.enabled) e) refl

-- where no slot passes, no enabled link does
pub any_none : (q : Settings → Bool) (l : List Slot) → any (with q) l ≡ false → (k : ℕ) (s : Settings) → Has l k s → q s ≡ false
unfolding any
any_none q [] e k s h = free_has_none s h
any_none q (x ∷ l) e zero s h = sym (ap (with q) h) ∙ left (with q x) (any (with q) l) e
  where
    left : (a b : Bool) → (a || b) ≡ false → a ≡ false
    left true b e = e
    left false b e = refl
any_none q (x ∷ l) e (suc k) s h = any_none q l (right (with q x) (any (with q) l) e) k s h
  where
    right : (a b : Bool) → (a || b) ≡ false → b ≡ false
    right true b e = clash refl e
    right false b e = e

-- after a slot is replaced, what is enabled is what was put there, or was enabled before
pub has_set : (l : List Slot) (k : ℕ) (x : Slot) (j : ℕ) (s : Settings) → Has (set l k x) j s → ((j ≡ k) × (x ≡ in_use s)) ⊎ Has l j s
has_set [] k x j s h = inr h
has_set (y ∷ l) zero x zero s h = inl (refl, h)
has_set (y ∷ l) zero x (suc j) s h = inr h
has_set (y ∷ l) (suc k) x zero s h = inr h
has_set (y ∷ l) (suc k) x (suc j) s h = next (has_set l k x j s h)
  where
    next : ((j ≡ k) × (x ≡ in_use s)) ⊎ Has l j s → ((suc j ≡ suc k) × (x ≡ in_use s)) ⊎ Has l j s
    next (inl p) = inl (ap suc p.0, p.1)
    next (inr g) = inr g

take-set : (n : ℕ) (l : List Slot) (k : ℕ) (x : Slot) → take n (set l k x) ≡ set (take n l) k x
take-set zero l k x = refl
take-set (suc n) [] k x = refl
take-set (suc n) (y ∷ l) zero x = refl
take-set (suc n) (y ∷ l) (suc k) x = ap (λ (r : List Slot). y ∷ r) (take-set n l k x)

pub counted-with : (t : Table) (k : ℕ) (x : Slot) → counted (with_slot t k x) ≡ set (counted t) k x
counted-with t k x = take-set (t.max - 1) t.slots k x

-- a cleared memory

pub cleared-blank : (n : ℕ) (l : List Slot) (k : ℕ) → get_or (take n (cleared n l)) k free ≡ free
unfolding cleared
cleared-blank zero l k = refl
cleared-blank (suc n) [] k = refl
cleared-blank (suc n) (x ∷ l) zero = refl
cleared-blank (suc n) (x ∷ l) (suc k) = cleared-blank n l k

pub cleared-length : (n : ℕ) (l : List Slot) → length (cleared n l) ≡ length l
unfolding cleared
cleared-length zero l = refl
cleared-length (suc n) [] = refl
cleared-length (suc n) (x ∷ l) = ap suc (cleared-length n l)

pub cleared-rest : (n : ℕ) (l : List Slot) → drop n (cleared n l) ≡ drop n l
unfolding cleared
cleared-rest zero l = refl
cleared-rest (suc n) [] = refl
cleared-rest (suc n) (x ∷ l) = cleared-rest n l

pub count_within : (l : List Slot) → enabled_count l ≤ length l
unfolding enabled_count
count_within [] = omega arith
count_within (x ∷ l) = go x.enabled (count_within l)
  where
    go : (t : Bool) → enabled_count l ≤ length l → cond t (suc (enabled_count l)) (enabled_count l) ≤ suc (length l)
    go true h = omega arith
    go false h = omega arith
