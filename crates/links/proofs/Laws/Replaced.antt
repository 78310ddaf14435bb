-- One slot of a sound table is replaced: what stays true of the run, of the memory behind it, and of the links in it.
use Prim.Native.Nat.{ℕ, ◌-◌, ◌≤◌, ◌<◌}
use mathlib.Core.Path.{◌≡◌, refl, sym, ◌∙◌, ap, subst}
use mathlib.Core.Logic.{◌⊎◌, inl, inr}
use mathlib.Core.Bool.{Bool, true, false}
use mathlib.Core.List.{List}
use lib.Dec.{eqb}
use lib.ListN.{length, drop, set, get_or, length-set}
use lib.Seq.{get_or-set_same, get_or-set_other, drop-set-lt}
use borrow.Author.Tests.{eqb-true, eqb-false}
use Rattle.octets.proofs.Laws.Tests.{clash}
use Rattle.links.specs.declared.Settings.{Settings}
use Rattle.links.specs.declared.Slot.{Slot}
use Rattle.links.specs.declared.Table.{Table}
use Rattle.links.specs.Slots.{Has, free, in_use, counted, enabled_count}
use Rattle.links.specs.Calls.{with_slot}
use Rattle.links.specs.Reached.{Apart, Sound}
use Rattle.links.proofs.Laws.Slots.{free_has_none, has_set, counted-with, count_within}

-- a slot of the run is replaced: what the new one is to be, and the rest as it was
module _ (most : ℕ) (memory : List Slot) (t : Table) (h : Sound most memory t) (k : ℕ) (x : Slot) where
  pub room-with : length (counted (with_slot t k x)) ≡ t.max - 1
  room-with = ap length (counted-with t k x) ∙ length-set (counted t) k x ∙ h.room

  pub few-with : enabled_count (counted (with_slot t k x)) ≤ t.max - 1
  few-with = subst (λ (n : ℕ). enabled_count (counted (with_slot t k x)) ≤ n) room-with (count_within (counted (with_slot t k x)))

  pub rest-with : k < length (counted t) → drop (t.max - 1) (set t.slots k x) ≡ drop (t.max - 1) memory
  rest-with l = drop-set-lt (t.max - 1) t.slots k x (subst (λ (n : ℕ). k < n) h.room l) ∙ h.rest

  pub blank-with : k < length (counted t) → (x.enabled ≡ false → x ≡ free) → (j : ℕ) → (get_or (counted (with_slot t k x)) j free).enabled ≡ false → get_or (counted (with_slot t k x)) j free ≡ free
  blank-with l b j = subst (λ (r : List Slot). (get_or r j free).enabled ≡ false → get_or r j free ≡ free) (sym (counted-with t k x)) (go (eqb j k) refl)
    where
      go : (e : Bool) → eqb j k ≡ e → (get_or (set (counted t) k x) j free).enabled ≡ false → get_or (set (counted t) k x) j free ≡ free
      go true e =
          let there : get_or (set (counted t) k x) j free ≡ x =
          ap (λ (n : ℕ). get_or (set (counted t) k x) n free) (eqb-true j k e) ∙ get_or-set_same (counted t) k x free l in
          rw there b
      go false e = rw (get_or-set_other (counted t) k j x free (eqb-false j k e)) (h.blank j)

-- a link is enabled with s at k: what is enabled is s there, or was so before
module _ (l : List Slot) (k : ℕ) (s : Settings) where
  pub filled : (j : ℕ) (r : Settings) → Has (set l k (in_use s)) j r → ((j ≡ k) × (s ≡ r)) ⊎ Has l j r
  filled j r h = go (has_set l k (in_use s) j r h)
    where
      go : ((j ≡ k) × (in_use s ≡ in_use r)) ⊎ Has l j r → ((j ≡ k) × (s ≡ r)) ⊎ Has l j r
      go (inl x) = inl (x.0, ap (λ (y : Slot). y.settings) x.1)
      go (inr y) = inr y

  pub apart_filled : (meet : Settings → Settings → Bool) → ((p q : Settings) → meet p q ≡ true → meet q p ≡ true)
      → ((j : ℕ) (r : Settings) → Has l j r → meet r s ≡ false)
      → Apart meet l → Apart meet (set l k (in_use s))
  apart_filled meet flip new a i j p q hp hq m = go (filled i p hp) (filled j q hq)
    where
      go : ((i ≡ k) × (s ≡ p)) ⊎ Has l i p → ((j ≡ k) × (s ≡ q)) ⊎ Has l j q → i ≡ j
      go (inl x) (inl y) = x.0 ∙ sym y.0
      go (inl x) (inr y) = clash (flip p q m) (subst (λ (r : Settings). meet q r ≡ false) x.1 (new j q y))
      go (inr x) (inl y) = clash m (subst (λ (r : Settings). meet p r ≡ false) y.1 (new i p x))
      go (inr x) (inr y) = a i j p q x y m

-- a slot is freed: what is enabled was so before
pub freed : (l : List Slot) (k j : ℕ) (s : Settings) → Has (set l k free) j s → Has l j s
freed l k j s h = go (has_set l k free j s h)
  where
    go : ((j ≡ k) × (free ≡ in_use s)) ⊎ Has l j s → Has l j s
    go (inl x) = free_has_none s x.1
    go (inr y) = y
