-- RULES, Area: the changes that describe one ground, the chains of them, and what they have to do with the normal form.
use Rattle.std.specs.Prelude.{ℕ, ◌+◌, ◌%◌, ◌≤◌, ◌≡◌, ◌↔◌, ◌⊎◌, Bool, true, false, ◌&&◌, ◌||◌, List, [], ◌∷◌, ℤ, pos, neg_ℤ}
use Rattle.std.specs.Int.Signed.{lt_z}
use Rattle.area.specs.declared.Area.{Area}
use Rattle.area.specs.Area.{eq_z, good_area, normal, same_area}

-- area-good, of numbers of any size: a and b have their upper bound by their type
pub record Good (x : Area) : Type 0 where
  pub good : good_area x ≡ true
  pub short_a : x.a ≤ 65_535
  pub short_b : x.b ≤ 65_535

-- an area by its six numbers: shape, latitude, longitude, a, b, angle
abbrev pub area : ℕ → ℤ → ℤ → ℕ → ℕ → ℕ → Area
area shape latitude longitude a b angle = record { shape = shape; latitude = latitude; longitude = longitude; a = a; b = b; angle = angle }

-- shapes 1 and 2
pub data Sided : ℕ → Type 0 where
  rectangle : Sided 1
  ellipse : Sided 2

-- area-changes, sentence by sentence
pub data Change : Area → Area → Type 0 where
  -- change-circle: a circle with any b and any angle
  circle : {latitude longitude : ℤ} {a : ℕ} (b c angle turned : ℕ)
      → Change (area 0 latitude longitude a b angle) (area 0 latitude longitude a c turned)
  -- change-half-turn: for shapes 1 and 2, angles 180 degrees apart
  half_turn : {shape : ℕ} → Sided shape → {latitude longitude : ℤ} {a b : ℕ} (angle : ℕ)
      → Change (area shape latitude longitude a b angle) (area shape latitude longitude a b (angle + 180))
  -- change-exchange: for shapes 1 and 2, a and b exchanged, and 90 degrees added, modulo 360
  exchange : {shape : ℕ} → Sided shape → {latitude longitude : ℤ} {a b : ℕ} (angle : ℕ)
      → Change (area shape latitude longitude a b angle) (area shape latitude longitude b a ((angle + 90) % 360))
  -- change-disc: an ellipse with a = b, at any angle, and the circle of radius a, with any b and angle
  disc : {latitude longitude : ℤ} {a : ℕ} (b angle turned : ℕ)
      → Change (area 2 latitude longitude a a angle) (area 0 latitude longitude a b turned)
  -- change-ends: both ends of the longitude range
  ends : {shape : ℕ} {latitude : ℤ} {a b angle : ℕ}
      → Change (area shape latitude (pos 1_800_000_000) a b angle) (area shape latitude (neg_ℤ (pos 1_800_000_000)) a b angle)

-- area-equal: chains of changes, in either direction, where every area on the way is good
pub data Chain : Area → Area → Type 0 where
  none : {x : Area} → Good x → Chain x x
  one : {x y : Area} → Good x → Good y → Change x y → Chain x y
  back : {x y : Area} → Chain x y → Chain y x
  join : {x y z : Area} → Chain x y → Chain y z → Chain x z

-- area-order: the numbers in their order, and the first that differs decides
abbrev pub numbers : Area → List ℤ
numbers x = pos x.shape ∷ x.latitude ∷ x.longitude ∷ pos x.a ∷ pos x.b ∷ pos x.angle ∷ []

unfoldable pub before : List ℤ → List ℤ → Bool
before [] k = false
before (m ∷ l) [] = false
before (m ∷ l) (n ∷ k) = lt_z m n || (eq_z m n && before l k)

abbrev pub comes_before : Area → Area → Bool
comes_before x y = before (numbers x) (numbers y)

-- area-equal and area-normal: two good areas have one normal form exactly when a chain joins them; a chain joins an area and its
-- normal form, which is good, and its own; and of all areas that a chain joins it is the first
pub record NormalForms : Type 0 where
  pub exactly : (x y : Area) → Good x → Good y → (normal x ≡ normal y) ↔ Chain x y
  pub joined : (x : Area) → Good x → Chain x (normal x)
  pub good : (x : Area) → Good x → Good (normal x)
  pub again : (x : Area) → normal (normal x) ≡ normal x
  pub none_before : (x y : Area) → Chain x y → comes_before y (normal x) ≡ false
  pub first : (x y : Area) → Chain x y → (y ≡ normal x) ⊎ (comes_before (normal x) y ≡ true)

-- what the calls ask: the test passes exactly when a chain joins the two
unfoldable pub SameGround : Type 0
SameGround = (x y : Area) → Good x → Good y → (same_area x y ≡ true) ↔ Chain x y
