-- RULES, Area: which areas are good, the normal form of each, and which two are equal.
use Rattle.std.specs.Prelude.{ℕ, ◌+◌, ◌%◌, Bool, false, cond, ◌&&◌, ◌||◌, ℤ, pos, negsuc, neg_ℤ, eqb, leb, ltb}
use Rattle.std.specs.Int.Signed.{le_z}
use Rattle.area.specs.declared.Area.{Area}

-- equal whole numbers
abbrev pub eq_z : ℤ → ℤ → Bool
eq_z (pos m) (pos n) = eqb m n
eq_z (pos m) (negsuc n) = false
eq_z (negsuc m) (pos n) = false
eq_z (negsuc m) (negsuc n) = eqb m n

-- area-good: shape 0, 1 or 2; latitude, longitude and angle within their bounds; a at least 1, and b too for shapes 1 and 2
unfoldable pub good_area : Area → Bool
good_area x =
    leb x.shape 2
    && le_z (neg_ℤ (pos 900_000_000)) x.latitude
    && le_z x.latitude (pos 900_000_000)
    && le_z (neg_ℤ (pos 1_800_000_000)) x.longitude
    && le_z x.longitude (pos 1_800_000_000)
    && leb x.angle 359
    && leb 1 x.a
    && (eqb x.shape 0 || leb 1 x.b)

-- both ends of the longitude range are one
abbrev pub normal_longitude : ℤ → ℤ
normal_longitude z = cond (eq_z z (pos 1_800_000_000)) (neg_ℤ (pos 1_800_000_000)) z

-- the centre of x, and what else describes the area
abbrev pub described : Area → ℕ → ℕ → ℕ → ℕ → Area
described x shape a b angle = record {
  shape = shape;
  latitude = x.latitude;
  longitude = normal_longitude x.longitude;
  a = a;
  b = b;
  angle = angle;
}

-- a circle, or an ellipse with a = b
abbrev pub is_round : Area → Bool
is_round x = eqb x.shape 0 || (eqb x.shape 2 && eqb x.a x.b)

-- area-normal, line by line: by whether it is round, and how a and b compare
unfoldable pub normal_by : Bool → Bool → Bool → Area → Area
normal_by round equal below x =
    cond round (described x 0 x.a 0 0)
    (cond equal (described x x.shape x.a x.b (x.angle % 90))
    (cond below (described x x.shape x.a x.b (x.angle % 180))
    (described x x.shape x.b x.a ((x.angle + 90) % 180))))

unfoldable pub normal : Area → Area
normal x = normal_by (is_round x) (eqb x.a x.b) (ltb x.a x.b) x

-- the same six numbers
unfoldable pub same_numbers : Area → Area → Bool
same_numbers x y =
    eqb x.shape y.shape
    && eq_z x.latitude y.latitude
    && eq_z x.longitude y.longitude
    && eqb x.a y.a
    && eqb x.b y.b
    && eqb x.angle y.angle

-- n is the normal form of x
unfoldable pub has_normal : Area → Area → Bool
has_normal x n = same_numbers (normal x) n

-- area-equal: one normal form
unfoldable pub same_area : Area → Area → Bool
same_area x y = has_normal x (normal y)
