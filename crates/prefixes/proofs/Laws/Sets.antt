-- The prefixes of a link as a set: what asks for one of them asks every member, and does not see their order.
use Prim.Native.Nat.{ℕ}
use mathlib.Core.Path.{◌≡◌, refl, sym, ◌∙◌}
use mathlib.Core.Logic.{◌↔◌, inl, inr}
use mathlib.Core.Bool.{Bool, true, false, ◌||◌, or-true}
use mathlib.Core.List.{List, [], ◌∷◌}
use Rattle.octets.proofs.Laws.Tests.{alike, clash}
use Rattle.octets.proofs.Laws.Digits.{Below}
use Rattle.prefix.specs.declared.Prefix.{Prefix}
use Rattle.prefix.specs.Prefix.{of_address, overlap, holds}
use Rattle.prefix.proofs.Laws.Overlap.{hold_overlap, overlap-sym, holds_as_overlap}
use Rattle.prefixes.specs.declared.Prefixes.{Prefixes}
use Rattle.prefixes.specs.Prefixes.{listed, any_of, holds_any, meets, overlapping, Among, SameSet}

-- one that passes is enough
pub passes : (q : Prefix → Bool) (p : Prefix) (l : List Prefix) → Among p l → q p ≡ true → any_of q l ≡ true
unfolding any_of Among
passes q p [] i e = absurd i
passes q p (x ∷ l) (inl same) e = rw (← same, e)
passes q p (x ∷ l) (inr later) e = rw (passes q p l later e) (or-true (q x))

-- and there is one: what follows from every member that passes
pub by_member : (q : Prefix → Bool) (l : List Prefix) {b : Bool}
    → ((p : Prefix) → Among p l → q p ≡ true → b ≡ true) → any_of q l ≡ true → b ≡ true
unfolding any_of Among
by_member q [] each e = clash e refl
by_member q (x ∷ l) {b} each e = go (q x) refl e (by_member q l (λ p i. each p (inr i)))
  where
    go : (t : Bool) → q x ≡ t → (t || any_of q l) ≡ true → (any_of q l ≡ true → b ≡ true) → b ≡ true
    go true f e later = each x (inl refl) f
    go false f e later = later e

-- tests that are alike, of lists with the same members
pub any-alike : (q r : Prefix → Bool) (l m : List Prefix)
    → ((p : Prefix) → q p ≡ r p) → ((p : Prefix) → Among p l ↔ Among p m) → any_of q l ≡ any_of r m
any-alike q r l m same members =
    alike _ _
    (by_member q l (λ p i e. passes r p m ((members p).0 i) (sym (same p) ∙ e)))
    (by_member r m (λ p i e. passes q p l ((members p).1 i) (same p ∙ e)))

pub set-refl : (s : Prefixes) → SameSet s s
set-refl s p = (λ i. i, λ i. i)

pub set-sym : (r s : Prefixes) → SameSet r s → SameSet s r
set-sym r s e p = ((e p).1, (e p).0)

pub set-trans : (r s t : Prefixes) → SameSet r s → SameSet s t → SameSet r t
set-trans r s t e f p = (λ i. (f p).0 ((e p).0 i), λ i. (e p).1 ((f p).1 i))

pub holds-alike : (r s : Prefixes) (a : List ℕ) → SameSet r s → holds_any r a ≡ holds_any s a
unfolding holds_any
holds-alike r s a e = any-alike _ _ (listed r) (listed s) (λ p. refl) e

pub meets-alike : (r s : Prefixes) (p : Prefix) → SameSet r s → meets r p ≡ meets s p
unfolding meets
meets-alike r s p e = any-alike _ _ (listed r) (listed s) (λ q. refl) e

pub overlapping-alike : (r s t u : Prefixes) → SameSet r s → SameSet t u → overlapping r t ≡ overlapping s u
unfolding overlapping
overlapping-alike r s t u e f = any-alike (meets r) (meets s) (listed t) (listed u) (λ p. meets-alike r s p e) f

-- who holds an address meets the prefix of that address alone
pub holds_as_meets : (s : Prefixes) (a : List ℕ) → Below 256 a → holds_any s a ≡ meets s (of_address a)
unfolding holds_any meets
holds_as_meets s a below = any-alike _ _ (listed s) (listed s) (λ p. holds_as_overlap p a below) (set-refl s)

-- two members that overlap
both : (r s : Prefixes) (p q : Prefix) → Among p (listed r) → Among q (listed s) → overlap p q ≡ true → overlapping r s ≡ true
unfolding overlapping meets
both r s p q i j e = passes (meets r) q (listed s) j (passes (λ p. overlap p q) p (listed r) i e)

pub overlapping-sym : (r s : Prefixes) → overlapping r s ≡ true → overlapping s r ≡ true
unfolding overlapping meets
overlapping-sym r s =
    by_member (meets r) (listed s) (λ q j.
    by_member (λ p. overlap p q) (listed r) (λ p i e. both s r q p j i (overlap-sym p q e)))

-- two links that hold one address overlap
pub holds-one : (r s : Prefixes) (a : List ℕ) → holds_any r a ≡ true → holds_any s a ≡ true → overlapping r s ≡ true
unfolding holds_any
holds-one r s a e f =
    by_member (λ p. holds p a) (listed r) (λ p i g.
    by_member (λ q. holds q a) (listed s) (λ q j h. both r s p q i j (hold_overlap p q a g h)) f) e
