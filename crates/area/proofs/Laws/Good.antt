-- What a change does to an area's numbers leaves a good area good.
use Prim.Native.Nat.{ℕ, ◌≤◌, zero-le}
use mathlib.Core.Path.{◌≡◌, refl}
use mathlib.Core.Bool.{Bool, true, false, cond, ◌||◌, and-eq-true_iff}
use lib.Dec.{eqb, leb}
use lib.IntN.{ℤ, pos, neg_ℤ}
use lib.Signed.{le_z}
use borrow.Author.Tests.{leb-true, le-leb}
use Rattle.area.specs.Area.{eq_z, good_area, normal_longitude}
use Rattle.area.specs.Ground.{Good, area, Sided, rectangle, ellipse}

-- the tests of `good_area`, one by one
record OfCentre (latitude longitude : ℤ) : Type 0 where
  pub south : le_z (neg_ℤ (pos 900_000_000)) latitude ≡ true
  pub north : le_z latitude (pos 900_000_000) ≡ true
  pub west : le_z (neg_ℤ (pos 1_800_000_000)) longitude ≡ true
  pub east : le_z longitude (pos 1_800_000_000) ≡ true

record OfExtent (shape a b angle : ℕ) : Type 0 where
  pub known : leb shape 2 ≡ true
  pub turn : leb angle 359 ≡ true
  pub some_a : leb 1 a ≡ true
  pub some_b : (eqb shape 0 || leb 1 b) ≡ true
  pub short_a : a ≤ 65_535
  pub short_b : b ≤ 65_535

module _ {s : ℕ} {y x : ℤ} {a b g : ℕ} where
  tests : Good (area s y x a b g) → OfCentre y x × OfExtent s a b g
  unfolding good_area
  tests ok =
      let h = simp (good_area, and-eq-true_iff) at ok.good in (
        record { south = h.0.0.0.0.0.0.1; north = h.0.0.0.0.0.1; west = h.0.0.0.0.1; east = h.0.0.0.1 },
        record { known = h.0.0.0.0.0.0.0; turn = h.0.0.1; some_a = h.0.1; some_b = h.1; short_a = ok.short_a; short_b = ok.short_b },
      )

  good_by : OfCentre y x → OfExtent s a b g → Good (area s y x a b g)
  unfolding good_area
  good_by c e = record {
    good = rw (e.known, c.south, c.north, c.west, c.east, e.turn, e.some_a, e.some_b);
    short_a = e.short_a;
    short_b = e.short_b;
  }

has_sides : {s : ℕ} → Sided s → eqb s 0 ≡ false
has_sides rectangle = refl
has_sides ellipse = refl

module _ {s : ℕ} {y x : ℤ} {a b g : ℕ} (ok : Good (area s y x a b g)) where
  pub good-shape : s ≤ 2
  good-shape = leb-true s 2 (tests ok).1.known

  pub good-angle : g ≤ 359
  good-angle = leb-true g 359 (tests ok).1.turn

  pub good_turned : (h : ℕ) → h ≤ 359 → Good (area s y x a b h)
  good_turned h f =
      let e = (tests ok).1 in
      good_by (tests ok).0 (record { known = e.known; turn = le-leb h 359 f; some_a = e.some_a; some_b = e.some_b; short_a = e.short_a; short_b = e.short_b })

  pub good_exchanged : Sided s → Good (area s y x b a g)
  good_exchanged u =
      let e = (tests ok).1 in
      good_by (tests ok).0 (record { known = e.known; turn = e.turn; some_a = rw (has_sides u) at e.some_b; some_b = rw (has_sides u) e.some_a; short_a = e.short_b; short_b = e.short_a })

  -- the circle of radius a
  pub good_round : Good (area 0 y x a 0 0)
  good_round =
      let e = (tests ok).1 in
      good_by (tests ok).0 (record { known = refl; turn = refl; some_a = e.some_a; some_b = refl; short_a = e.short_a; short_b = zero-le })

  pub good-normal_longitude : Good (area s y (normal_longitude x) a b g)
  good-normal_longitude = by_end (eq_z x (pos 1_800_000_000))
    where
      by_end : (e : Bool) → Good (area s y (cond e (neg_ℤ (pos 1_800_000_000)) x) a b g)
      by_end true = let c = (tests ok).0 in good_by (record { south = c.south; north = c.north; west = refl; east = refl }) (tests ok).1
      by_end false = ok
