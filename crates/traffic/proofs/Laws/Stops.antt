-- What looking for an enabled stop link finds: a link that passes, or none does.
use Prim.Native.Nat.{ℕ, ◌<◌}
use native.Mathlib.Omega.{arith}
use mathlib.Core.Path.{◌≡◌, refl, sym, ◌∙◌, ap}
use mathlib.Core.Bool.{Bool, true, false, cond, and-eq-true_iff}
use mathlib.Core.List.{List}
use lib.ListN.{length, get_or}
use borrow.Author.Tests.{ltb-true}
use Rattle.links.specs.declared.Settings.{Settings}
use Rattle.links.specs.declared.Slot.{Slot}
use Rattle.links.specs.Slots.{Has, free, in_use, any, place, with}
use Rattle.links.proofs.Laws.Search.{any_place, at_place}
use Rattle.links.proofs.Laws.Slots.{any_none}
use Rattle.traffic.specs.Arrives.{at, nowhere, stop_by}

-- a slot that passes is enabled
enabled : (q : Settings → Bool) (x : Slot) → with q x ≡ true → (x ≡ in_use x.settings) × (q x.settings ≡ true)
enabled q x e =
    let h = simp and-eq-true_iff at e in
    (λ i. record { enabled = h.0 i; settings = x.settings }, h.1)

abbrev Hit : (Settings → Bool) → List Slot → ℕ → Settings → Type 0
Hit q l k s = Has l k s × (q s ≡ true)

pub found_at_lem : (q : Settings → Bool) (l : List Slot) (k : ℕ) (s : Settings) → stop_by q l ≡ at k s → Hit q l k s
unfolding stop_by
found_at_lem q l k s e = go (any (with q) l) refl e
  where
    go : (t : Bool) → any (with q) l ≡ t → cond t (at (place (with q) l) (get_or l (place (with q) l) free).settings) nowhere ≡ at k s → Hit q l k s
    go true f e =
        let here = get_or l (place (with q) l) free in
        let below : place (with q) l < length l = ltb-true _ _ (sym (any_place (with q) l) ∙ f) in
        let h = enabled q here (at_place (with q) l free below) in
        let place_is : place (with q) l ≡ k = cc in
        let settings-are : here.settings ≡ s = cc in
        (ap (λ (j : ℕ). get_or l j free) (sym place_is) ∙ h.0 ∙ ap in_use settings-are, ap q (sym settings-are) ∙ h.1)
    go false f e = absurd (let z : ◌≡◌ {A = ℕ} 0 1 = cc in omega arith)

pub found_nowhere : (q : Settings → Bool) (l : List Slot) → stop_by q l ≡ nowhere → (k : ℕ) (s : Settings) → Has l k s → q s ≡ false
unfolding stop_by
found_nowhere q l e = go (any (with q) l) refl e
  where
    go : (t : Bool) → any (with q) l ≡ t → cond t (at (place (with q) l) (get_or l (place (with q) l) free).settings) nowhere ≡ nowhere → (k : ℕ) (s : Settings) → Has l k s → q s ≡ false
    go true f e = absurd (let z : ◌≡◌ {A = ℕ} 0 1 = cc in omega arith)
    go false f e = any_none q l f
