-- RULES, Area: normal forms are equal exactly when a chain of changes joins the areas, and each is the first that a chain reaches.
use mathlib.Core.Path.{subst}
use Rattle.area.specs.declared.Area.{Area}
use Rattle.area.specs.Ground.{Chain, back, join, NormalForms, SameGround}
use Rattle.area.proofs.Laws.Same.{same_iff}
use Rattle.area.proofs.Laws.Normal.{normal-kept, normal-again}
use Rattle.area.proofs.Laws.Chains.{chain_good, to_normal}
use Rattle.area.proofs.Laws.First.{none_before_lem, is_first}

pub normal_forms : NormalForms
normal_forms = record {
  exactly = λ x y p q. (λ e. join (subst (λ (z : Area). Chain x z) e (to_normal x p)) (back (to_normal y q)), normal-kept);
  joined = to_normal;
  good = λ x p. (chain_good (to_normal x p)).1;
  again = normal-again;
  none_before = none_before_lem;
  first = is_first;
}

pub same_ground_lem : SameGround
unfolding SameGround
same_ground_lem x y p q =
    let exactly = normal_forms.exactly x y p q in
    (λ e. exactly.0 ((same_iff x y).0 e), λ c. (same_iff x y).1 (exactly.1 c))
