-- A change does not change the normal form. Numbers of an area: shape s, latitude y, longitude x, a, b, angle g.
use Prim.Native.Nat.{ℕ, ◌+◌, ◌%◌, ◌<◌}
use native.Mathlib.Omega.{arith}
use mathlib.Core.Path.{◌≡◌, refl, sym, ◌∙◌, ap, subst}
use mathlib.Core.Bool.{Bool, true, false, cond, ◌&&◌, ◌||◌, and-eq-true_iff}
use lib.Dec.{eqb, ltb}
use lib.IntN.{ℤ, pos, neg_ℤ}
use borrow.Author.Tests.{eqb-true, eqb-false, eq-eqb, ne_eqb, ltb-true, ltb-false, lt-ltb, le-ltb}
use Rattle.area.specs.declared.Area.{Area}
use Rattle.area.specs.Area.{eq_z, normal_longitude, described, is_round, normal_by, normal, same_numbers, has_normal}
use Rattle.area.specs.Ground.{area, rectangle, ellipse, Change, circle, half_turn, exchange, disc, ends, Chain, none, one, back, join}

-- how a and b compare, as `normal` asks it, and as it asks it of b and a
pub data Sides (a b : ℕ) : Bool → Bool → Bool → Bool → Type 0 where
  equal : a ≡ b → Sides a b true false true false
  less : a < b → Sides a b false true false false
  more : b < a → Sides a b false false false true

pub sides : (a b : ℕ) → Sides a b (eqb a b) (ltb a b) (eqb b a) (ltb b a)
sides a b = go (eqb a b) (ltb a b) refl refl
  where
    go : (p q : Bool) → eqb a b ≡ p → ltb a b ≡ q → Sides a b p q (eqb b a) (ltb b a)
    go true true e f = absurd (omega (arith, eqb-true a b e, ltb-true a b f))
    go true false e f = rw (eq-eqb b a (sym (eqb-true a b e)), le-ltb b a (omega (arith, eqb-true a b e))) (equal (eqb-true a b e))
    go false true e f = rw (ne_eqb b a (λ q. eqb-false a b e (sym q)), le-ltb b a (omega (arith, ltb-true a b f))) (less (ltb-true a b f))
    go false false e f = rw (ne_eqb b a (λ q. eqb-false a b e (sym q)), lt-ltb b a (omega (arith, eqb-false a b e, ltb-false a b f))) (more (omega (arith, eqb-false a b e, ltb-false a b f)))

-- what has sides is not round, and an ellipse is where its axes are equal: `normal_by false p q` and `normal_by p p q`
module _ (s : ℕ) (y x : ℤ) where
  half_turned : (o p q : Bool) (a b g : ℕ) → normal_by o p q (area s y x a b g) ≡ normal_by o p q (area s y x a b (g + 180))
  unfolding normal_by
  half_turned true p q a b g = refl
  half_turned false true q a b g = ap (described (area s y x a b g) s a b) (omega arith)
  half_turned false false true a b g = ap (described (area s y x a b g) s a b) (omega arith)
  half_turned false false false a b g = ap (described (area s y x a b g) s b a) (omega arith)

  exchanged : {p q r t : Bool} (a b g : ℕ) → Sides a b p q r t → normal_by false p q (area s y x a b g) ≡ normal_by false r t (area s y x b a ((g + 90) % 360))
  unfolding normal_by
  exchanged a b g (equal e) = let f : g % 90 ≡ (g + 90) % 360 % 90 = omega arith in λ i. area s y (normal_longitude x) (e i) (sym e i) (f i)
  exchanged a b g (less e) = ap (described (area s y x a b g) s a b) (omega arith)
  exchanged a b g (more e) = ap (described (area s y x a b g) s b a) (omega arith)

  exchanged_axes : {p q r t : Bool} (a b g : ℕ) → Sides a b p q r t → normal_by p p q (area s y x a b g) ≡ normal_by r r t (area s y x b a ((g + 90) % 360))
  unfolding normal_by
  exchanged_axes a b g (equal e) = ap (λ (c : ℕ). area 0 y (normal_longitude x) c 0 0) e
  exchanged_axes a b g (less e) = exchanged a b g (less e)
  exchanged_axes a b g (more e) = exchanged a b g (more e)

kept : {x y : Area} → Change x y → normal x ≡ normal y
unfolding normal normal_by
kept (circle b c g h) = refl
kept (half_turn rectangle {latitude = y} {longitude = x} {a = a} {b = b} g) = half_turned 1 y x false (eqb a b) (ltb a b) a b g
kept (half_turn ellipse {latitude = y} {longitude = x} {a = a} {b = b} g) = half_turned 2 y x (eqb a b) (eqb a b) (ltb a b) a b g
kept (exchange rectangle {latitude = y} {longitude = x} {a = a} {b = b} g) = exchanged 1 y x a b g (sides a b)
kept (exchange ellipse {latitude = y} {longitude = x} {a = a} {b = b} g) = exchanged_axes 2 y x a b g (sides a b)
kept (disc {latitude = y} {longitude = x} {a = a} b g h) = ap (λ (p : Bool). normal_by p p (ltb a a) (area 2 y x a a g)) (eq-eqb a a refl)
kept ends = refl

-- a chain joins areas of one normal form
pub normal-kept : {x y : Area} → Chain x y → normal x ≡ normal y
normal-kept (none ok) = refl
normal-kept (one p q c) = kept c
normal-kept (back c) = sym (normal-kept c)
normal-kept (join c d) = normal-kept c ∙ normal-kept d

longitude-again : (z : ℤ) → normal_longitude (normal_longitude z) ≡ normal_longitude z
longitude-again z = go (eq_z z (pos 1_800_000_000)) refl
  where
    go : (t : Bool) → eq_z z (pos 1_800_000_000) ≡ t → normal_longitude (cond t (neg_ℤ (pos 1_800_000_000)) z) ≡ cond t (neg_ℤ (pos 1_800_000_000)) z
    go true e = refl
    go false e = rw e

module _ (s : ℕ) (y x : ℤ) (a b g : ℕ) where
  sides_again : {p q r t : Bool} → Sides a b p q r t → (eqb s 0 || (eqb s 2 && p)) ≡ false → normal (normal_by false p q (area s y x a b g)) ≡ normal_by false p q (area s y x a b g)
  unfolding normal normal_by
  sides_again (equal e) f = let is : g % 90 % 90 ≡ g % 90 = omega arith in rw (eq-eqb a b e, f, longitude-again x, is)
  sides_again (less e) f = let is : g % 180 % 180 ≡ g % 180 = omega arith in rw (ne_eqb a b (λ q. omega arith), f, lt-ltb a b e, longitude-again x, is)
  sides_again (more e) f = let is : (g + 90) % 180 % 180 ≡ (g + 90) % 180 = omega arith in rw (ne_eqb b a (λ q. omega arith), f, lt-ltb b a e, longitude-again x, is)

  round_again : (t : Bool) → is_round (area s y x a b g) ≡ t → normal (normal (area s y x a b g)) ≡ normal (area s y x a b g)
  unfolding normal normal_by
  round_again true e = rw (e, longitude-again x)
  round_again false e = rw e (sides_again (sides a b) e)

-- a normal form is its own, of a good area or not
pub normal-again : (x : Area) → normal (normal x) ≡ normal x
normal-again x = round_again x.shape x.latitude x.longitude x.a x.b x.angle (is_round x) refl

-- the centre has no part in the rest: its latitude stays, and its longitude is that of one end
pub normal_centre : (x : Area) → ((normal x).latitude ≡ x.latitude) × ((normal x).longitude ≡ normal_longitude x.longitude)
unfolding normal normal_by
normal_centre x = by_tests (is_round x) (eqb x.a x.b) (ltb x.a x.b)
  where
    by_tests : (o p q : Bool) → ((normal_by o p q x).latitude ≡ x.latitude) × ((normal_by o p q x).longitude ≡ normal_longitude x.longitude)
    by_tests true p q = (refl, refl)
    by_tests false true q = (refl, refl)
    by_tests false false true = (refl, refl)
    by_tests false false false = (refl, refl)

-- so an area with this normal form has its latitude
pub normal-latitude : (x n : Area) → has_normal x n ≡ true → eq_z x.latitude n.latitude ≡ true
unfolding has_normal same_numbers
normal-latitude x n e =
    let h = simp (has_normal, same_numbers, and-eq-true_iff) at e in
    subst (λ (z : ℤ). eq_z z n.latitude ≡ true) (normal_centre x).0 h.0.0.0.0.1
