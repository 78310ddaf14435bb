-- `same_area` is an equivalence: all that the other crates know of it.
use mathlib.Core.Path.{◌≡◌, sym, ◌∙◌, subst}
use mathlib.Core.Logic.{◌↔◌}
use mathlib.Core.Bool.{true, and-eq-true_iff}
use borrow.Author.Tests.{eqb-true}
use Rattle.area.specs.declared.Area.{Area}
use Rattle.area.specs.Area.{normal, same_numbers, has_normal, same_area}
use Rattle.octets.proofs.Laws.Tests.{alike, eqb_self}
use Rattle.area.proofs.Laws.Numbers.{eq_z_self, eq_z_true}

numbers_equal : (x y : Area) → same_numbers x y ≡ true → x ≡ y
unfolding same_numbers
numbers_equal x y e =
    let h = simp (same_numbers, and-eq-true_iff) at e in
    λ i. record {
      shape = eqb-true x.shape y.shape h.0.0.0.0.0 i;
      latitude = eq_z_true x.latitude y.latitude h.0.0.0.0.1 i;
      longitude = eq_z_true x.longitude y.longitude h.0.0.0.1 i;
      a = eqb-true x.a y.a h.0.0.1 i;
      b = eqb-true x.b y.b h.0.1 i;
      angle = eqb-true x.angle y.angle h.1 i;
    }

numbers_self : (x : Area) → same_numbers x x ≡ true
unfolding same_numbers
numbers_self x = simp (same_numbers, eqb_self, eq_z_self)

-- the test agrees with equality of normal forms
pub same_iff : (x y : Area) → (same_area x y ≡ true) ↔ (normal x ≡ normal y)
unfolding same_area has_normal
same_iff x y = (numbers_equal (normal x) (normal y), λ e. subst (λ (z : Area). same_numbers (normal x) z ≡ true) e (numbers_self (normal x)))

pub same_refl : (x : Area) → same_area x x ≡ true
unfolding same_area has_normal
same_refl x = numbers_self (normal x)

pub same-sym : (x y : Area) → same_area x y ≡ true → same_area y x ≡ true
same-sym x y e = (same_iff y x).1 (sym ((same_iff x y).0 e))

pub same-trans : (x y z : Area) → same_area x y ≡ true → same_area y z ≡ true → same_area x z ≡ true
same-trans x y z e f = (same_iff x z).1 ((same_iff x y).0 e ∙ (same_iff y z).0 f)

-- the same areas pass the same tests
pub same_test : (x y z : Area) → same_area x y ≡ true → same_area x z ≡ same_area y z
same_test x y z e = alike _ _ (same-trans y x z (same-sym x y e)) (same-trans x y z e)
