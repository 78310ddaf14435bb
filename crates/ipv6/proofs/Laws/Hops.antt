-- Which next hops are good.
use Prim.Native.Nat.{ℕ}
use mathlib.Core.Path.{◌≡◌, refl}
use mathlib.Core.Logic.{◌≢◌}
use mathlib.Core.Bool.{Bool, true, false, not, and-eq-true_iff}
use mathlib.Core.List.{List}
use lib.Dec.{eqb}
use lib.ListN.{length, get_or}
use borrow.Author.Tests.{eqb-true, eqb-false, eq-eqb, ne_eqb, not-true}
use Rattle.octets.specs.Runs.{same}
use Rattle.octets.proofs.Laws.Tests.{clash}
use Rattle.octets.proofs.Laws.Runs.{same_true, eq_same}
use Rattle.ipv6.specs.Address.{multicast, zeros_then, good_hop, GoodHops}

differs : (a b : List ℕ) → not (same a b) ≡ true → a ≢ b
differs a b h e = clash (eq_same a b e) (not-true (same a b) h)

not_same : (a b : List ℕ) → a ≢ b → same a b ≡ false
not_same a b h = go (same a b) refl
  where
    go : (t : Bool) → same a b ≡ t → same a b ≡ false
    go true f = absurd (h (same_true a b f))
    go false f = f

pub good_hops : GoodHops
unfolding good_hop multicast
good_hops a = (
  λ g.
      let h = simp and-eq-true_iff at g in
      (eqb-true _ _ h.0.0.0, differs a (zeros_then 0) h.0.0.1, differs a (zeros_then 1) h.0.1, eqb-false _ _ (not-true (eqb (get_or a 0 0) 0xff) h.1)),
  λ h. rw (eq-eqb (length a) 16 h.0, not_same a (zeros_then 0) h.1, not_same a (zeros_then 1) h.2, ne_eqb (get_or a 0 0) 0xff h.3),
)
