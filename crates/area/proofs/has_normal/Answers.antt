-- `area::has_normal`: where the centres differ the rest decides nothing.
use mathlib.Core.Path.{◌≡◌, sym, ◌∙◌, ap}
use mathlib.Core.Bool.{false, ◌&&◌, and-false, and_assoc}
use lib.Dec.{eqb}
use Rattle.std.specs.Ordering.{int_eq}
use lib.IntN.{ℤ}
use borrow.Author.Rules.{rules}
use mir.Syntax.{w32}
use mir.Val.{SFits}
use mir.ValLaws.{to_z-of_z}
use Rattle.area.specs.declared.Area.{Area}
use Rattle.area.specs.Area.{eq_z, normal_longitude, same_numbers, has_normal}
use Rattle.area.proofs.Laws.Numbers.{eq_bits, eq_is}
use Rattle.area.proofs.Laws.Normal.{normal_centre}
use Rattle.area.proofs.has_normal.Goals as goal
use Rattle.area.proofs.has_normal.Goals.{then-x-n, else-x-n}

module _ (x n : Area) where
  latitude-apart : eq_z x.latitude n.latitude ≡ false → false ≡ has_normal x n
  unfolding has_normal same_numbers
  latitude-apart e = rw (ap (λ (z : ℤ). eq_z z n.latitude) (normal_centre x).0 ∙ e, and-false)

  longitude-apart : eq_z (normal_longitude x.longitude) n.longitude ≡ false → false ≡ has_normal x n
  unfolding has_normal same_numbers
  longitude-apart e = rw (ap (λ (z : ℤ). eq_z z n.longitude) (normal_centre x).1 ∙ e, and-false)

-- the derived `==` compares all six numbers
numbers_tested : (m n : Area)
    → (eqb m.shape n.shape && (int_eq m.latitude n.latitude && (int_eq m.longitude n.longitude && (eqb m.a n.a && (eqb m.b n.b && eqb m.angle n.angle))))) ≡ same_numbers m n
unfolding same_numbers
numbers_tested m n = rw (eq_is m.latitude n.latitude, eq_is m.longitude n.longitude) (simp and_assoc)

pub returns-then-normal_longitude-n : goal.returns-then-normal_longitude-n
unfolding has_normal
returns-then-normal_longitude-n c =
    let n = c.args.n in
    c.eq.ensures ∙ numbers_tested c.normal.result n ∙ ap (λ (m : Area). same_numbers m n) c.normal.ensures

pub returns-else-normal_longitude-n : goal.returns-else-normal_longitude-n
returns-else-normal_longitude-n c =
    let x = c.args.x in
    let n = c.args.n in
    let no = c.if-normal_longitude-n.false in
    elim c.if-x-n.branch [
      | then-x-n w ↦
          let longitude = w.normal_longitude in
          let fits : SFits w32 x.longitude = search rules in
          let is : longitude.result ≡ normal_longitude x.longitude = longitude.ensures ∙ ap normal_longitude (to_z-of_z w32 x.longitude fits) in
          let differs = sym (eq_bits {x = longitude.result} {y = n.longitude} (record { sfits = longitude.type_inv }) (search rules)) ∙ sym w.value-is ∙ no in
          no ∙ longitude-apart x n (ap (λ (z : ℤ). eq_z z n.longitude) (sym is) ∙ differs)
      | else-x-n w ↦ no ∙ latitude-apart x n (sym (eq_bits {x = x.latitude} {y = n.latitude} (search rules) (search rules)) ∙ sym w.value-is ∙ no)
    ]
