-- A chain joins a good area and its normal form; so areas of one normal form are joined.
use Prim.Native.Nat.{ℕ, zero, suc, ◌+◌, ◌%◌, ◌≤◌}
use native.Mathlib.Omega.{arith}
use mathlib.Core.Path.{◌≡◌, refl, sym, subst}
use mathlib.Core.Bool.{Bool, true, false, cond}
use lib.Dec.{ltb}
use lib.IntN.{ℤ, pos, neg_ℤ}
use borrow.Author.Tests.{ltb-true, ltb-false}
use Rattle.area.specs.declared.Area.{Area}
use Rattle.area.specs.Area.{eq_z, normal_longitude, normal_by, normal}
use Rattle.area.specs.Ground.{Good, area, Sided, rectangle, ellipse, circle, half_turn, exchange, disc, ends, Chain, none, one, back, join}
use Rattle.area.proofs.Laws.Numbers.{eq_z_true}
use Rattle.area.proofs.Laws.Good.{good-shape, good-angle, good_turned, good_exchanged, good_round, good-normal_longitude}
use Rattle.area.proofs.Laws.Normal.{Sides, equal, less, more, sides}

-- both ends of a chain are good
pub chain_good : {x y : Area} → Chain x y → Good x × Good y
chain_good (none ok) = (ok, ok)
chain_good (one p q c) = (p, q)
chain_good (back c) = ((chain_good c).1, (chain_good c).0)
chain_good (join c d) = ((chain_good c).0, (chain_good d).1)

-- one chain after the other, the second from where the first ends
onward : {x y z : Area} → Chain x y → (Good y → Chain y z) → Chain x z
onward c d = join c (d (chain_good c).1)

at-normal_longitude : {s : ℕ} {y x : ℤ} {a b g : ℕ} → Good (area s y x a b g) → Chain (area s y x a b g) (area s y (normal_longitude x) a b g)
at-normal_longitude {s} {y} {x} {a} {b} {g} ok = go (eq_z x (pos 1_800_000_000)) refl (good-normal_longitude ok)
  where
    go : (e : Bool) → eq_z x (pos 1_800_000_000) ≡ e → Good (area s y (cond e (neg_ℤ (pos 1_800_000_000)) x) a b g) → Chain (area s y x a b g) (area s y (cond e (neg_ℤ (pos 1_800_000_000)) x) a b g)
    go true e there =
        let is = eq_z_true x (pos 1_800_000_000) e in
        subst (λ (z : ℤ). Chain (area s y z a b g) (area s y (neg_ℤ (pos 1_800_000_000)) a b g)) (sym is)
        (one (subst (λ (z : ℤ). Good (area s y z a b g)) is ok) there ends)
    go false e there = none ok

module _ {s : ℕ} (u : Sided s) {y x : ℤ} where
  modulo_180 : {a b g : ℕ} → Good (area s y x a b g) → Chain (area s y x a b g) (area s y x a b (g % 180))
  modulo_180 {a} {b} {g} ok = go (ltb g 180) refl
    where
      go : (t : Bool) → ltb g 180 ≡ t → Chain (area s y x a b g) (area s y x a b (g % 180))
      go true e =
          let is : g ≡ g % 180 = omega (arith, ltb-true g 180 e) in
          subst (λ (n : ℕ). Chain (area s y x a b g) (area s y x a b n)) is (none ok)
      go false e =
          let is : g % 180 + 180 ≡ g = omega (arith, ltb-false g 180 e, good-angle ok) in
          let there = good_turned ok (g % 180) (omega arith) in
          back (subst (λ (n : ℕ). Good (area s y x a b n) → Chain (area s y x a b (g % 180)) (area s y x a b n)) is (λ here. one there here (half_turn u (g % 180))) ok)

  exchanged_to : {a b g : ℕ} (h : ℕ) → (g + 90) % 360 ≡ h → Good (area s y x a b g) → Chain (area s y x a b g) (area s y x b a h)
  exchanged_to {a} {b} {g} h e ok =
      subst (λ (n : ℕ). Good (area s y x b a n) → Chain (area s y x a b g) (area s y x b a n)) e (λ there. one ok there (exchange u g)) (good_turned (good_exchanged ok u) h (omega (arith, e)))

  -- a square, or an ellipse with a = b
  modulo_90 : {a g : ℕ} → Good (area s y x a a g) → Chain (area s y x a a g) (area s y x a a (g % 90))
  modulo_90 {a} {g} ok = join (modulo_180 ok) (go (ltb (g % 180) 90) refl)
    where
      go : (t : Bool) → ltb (g % 180) 90 ≡ t → Chain (area s y x a a (g % 180)) (area s y x a a (g % 90))
      go true e =
          let is : g % 180 ≡ g % 90 = omega (arith, ltb-true (g % 180) 90 e) in
          subst (λ (n : ℕ). Chain (area s y x a a (g % 180)) (area s y x a a n)) is (none (good_turned ok (g % 180) (omega arith)))
      go false e = back (exchanged_to (g % 180) (omega (arith, ltb-false (g % 180) 90 e)) (good_turned ok (g % 90) (omega arith)))

  to_sides : {p q r t : Bool} {a b g : ℕ} → Sides a b p q r t → Good (area s y x a b g) → Chain (area s y x a b g) (normal_by false p q (area s y x a b g))
  unfolding normal_by
  to_sides {a = a} {b = b} {g = g} (equal e) ok =
      onward (subst (λ (c : ℕ). Good (area s y x a c g) → Chain (area s y x a c g) (area s y x a c (g % 90))) e modulo_90 ok) at-normal_longitude
  to_sides (less e) ok = onward (modulo_180 ok) at-normal_longitude
  to_sides {a = a} {b = b} {g = g} (more e) ok =
      let is : (g + 90) % 360 % 180 ≡ (g + 90) % 180 = omega arith in
      subst (λ (n : ℕ). Chain (area s y x a b g) (area s y (normal_longitude x) b a n)) is
      (onward (onward (exchanged_to ((g + 90) % 360) refl ok) modulo_180) at-normal_longitude)

to_axes : {y x : ℤ} {p q r t : Bool} {a b g : ℕ} → Sides a b p q r t → Good (area 2 y x a b g) → Chain (area 2 y x a b g) (normal_by p p q (area 2 y x a b g))
unfolding normal_by
to_axes {y} {x} {a = a} {g = g} (equal e) ok =
    join (subst (λ (c : ℕ). Good (area 2 y x a c g) → Chain (area 2 y x a c g) (area 0 y x a 0 0)) e (λ here. one here (good_round here) (disc 0 g 0)) ok)
    (at-normal_longitude (good_round ok))
to_axes (less e) ok = to_sides ellipse (less e) ok
to_axes (more e) ok = to_sides ellipse (more e) ok

by_shape : (s : ℕ) {y x : ℤ} {a b g : ℕ} → s ≤ 2 → Good (area s y x a b g) → Chain (area s y x a b g) (normal (area s y x a b g))
unfolding normal normal_by
by_shape zero {b = b} {g = g} h ok = join (one ok (good_round ok) (circle b 0 g 0)) (at-normal_longitude (good_round ok))
by_shape (suc zero) {a = a} {b = b} h ok = to_sides rectangle (sides a b) ok
by_shape (suc (suc zero)) {a = a} {b = b} h ok = to_axes (sides a b) ok
by_shape (suc (suc (suc s))) h ok = absurd (omega arith)

pub to_normal : (x : Area) → Good x → Chain x (normal x)
to_normal x ok = by_shape x.shape (good-shape ok) ok
