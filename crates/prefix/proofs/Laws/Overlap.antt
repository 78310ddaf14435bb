-- What two prefixes have to do with each other: all that the other crates know of `holds` and `overlap`.
use Prim.Native.Nat.{ℕ, ◌≤◌, ◌<◌, min}
use native.Mathlib.Nat.{le_total, min-le_left, min-le_right, min_comm, min-eq_left, lt_of_lt_of_le}
use native.Mathlib.Omega.{arith}
use mathlib.Core.Path.{◌≡◌, refl, sym, ◌∙◌, ap}
use mathlib.Core.Logic.Or
use mathlib.Core.Bool.{Bool, true, false, cond, ◌&&◌, ◌||◌, and-eq-true_iff, and-true, and-false, or-eq-true_iff, So-prop, or_comm, or-true}
use mathlib.Core.List.{List}
use lib.Dec.{eqb, leb, ltb}
use lib.ListN.{length, take}
use lib.Seq.{take-take}
use borrow.Author.Tests.{le-leb, leb-true, lt-ltb, ltb-true, eqb-true}
use Rattle.std.proofs.lemmas.Bool.Decides.{nat_tests}
use Rattle.octets.specs.Digits.{bits}
use Rattle.octets.specs.Runs.{same}
use Rattle.octets.proofs.Laws.Tests.{alike}
use Rattle.octets.proofs.Laws.Runs.{same_true, eq_same, take_min}
use Rattle.octets.proofs.Laws.Digits.{Below}
use Rattle.octets.proofs.Laws.Bits.{length-bits}
use Rattle.prefix.proofs.Laws.Words.{length_words, bytes_of-bytes}
use Rattle.prefix.specs.declared.Prefix.{Prefix}
use Rattle.prefix.specs.Prefix.{bytes_of, of_bytes, of_address, no_prefix, agrees, holds, holds_prefix, overlap, may_overlap}

-- as many first bits are equal: fewer are too
fewer : (m n : ℕ) (a b : List ℕ) → m ≤ n → take n (bits a) ≡ take n (bits b) → take m (bits a) ≡ take m (bits b)
fewer m n a b h e = sym (take-take m n (bits a) h) ∙ ap (take m) e ∙ take-take m n (bits b) h

-- the bits of two prefixes are the same as far as the shorter goes
abbrev Shared : Prefix → Prefix → Type 0
Shared p q = take (min p.len q.len) (bits (bytes_of p)) ≡ take (min p.len q.len) (bits (bytes_of q))

held_shared : (p q : Prefix) → holds_prefix p q ≡ true → Shared p q
unfolding holds_prefix agrees
held_shared p q e =
    let h = simp (holds_prefix, agrees, and-eq-true_iff) at e in
    rw (min-eq_left (leb-true p.len q.len h.0)) (same_true _ _ h.1.1)

shared_held : (p q : Prefix) → p.len ≤ q.len → ltb 0 p.len ≡ true → Shared p q → holds_prefix p q ≡ true
unfolding holds_prefix agrees
shared_held p q h some e =
    simp (holds_prefix, agrees, and-eq-true_iff) (le-leb _ _ h, (some, eq_same _ _ (rw (min-eq_left h) at e)))

turned : (p q : Prefix) → Shared p q → Shared q p
turned p q e = rw (min_comm q.len p.len) (sym e)

-- two that overlap may: who goes by the first words passes over none of them
pub overlap_may : (p q : Prefix) → overlap p q ≡ true → may_overlap p q ≡ true
unfolding may_overlap
overlap_may p q e = go (eqb (min p.len q.len) 0 || ltb 64 (min p.len q.len))
  where
    go : (b : Bool) → cond b true (overlap p q) ≡ true
    go true = refl
    go false = e

-- two prefixes overlap if neither is none and the shorter's bits are the other's
pub overlap_shorter : (p q : Prefix)
    → overlap p q ≡ (ltb 0 p.len && ltb 0 q.len && same (take (min p.len q.len) (bits (bytes_of p))) (take (min p.len q.len) (bits (bytes_of q))))
unfolding overlap
overlap_shorter p q =
    alike _ _
    (λ e. let h = simp (overlap, and-eq-true_iff) at e in
    simp and-eq-true_iff (h.0, Or.elim (So-prop _) ((or-eq-true_iff _ _).0 h.1) (λ l. eq_same _ _ (held_shared p q l)) (λ r. eq_same _ _ (turned q p (held_shared q p r)))))
    (λ e. let h = simp and-eq-true_iff at e in
    let bits-same = same_true _ _ h.1 in
    simp (overlap, and-eq-true_iff) (
      h.0,
      Or.elim (So-prop _) (le_total p.len q.len)
          (λ l. rw (shared_held p q l h.0.0 bits-same))
          (λ l. rw (shared_held q p l h.0.1 (turned p q bits-same)) (or-true (holds_prefix p q))),
    ))

-- the same by the length of the shorter alone
pub none_overlaps : (p q : Prefix) → min p.len q.len ≡ 0 → overlap p q ≡ false
none_overlaps p q e = rw (overlap_shorter p q) (grind (arith, nat_tests))

pub some_overlap : (p q : Prefix) → 0 < min p.len q.len
    → overlap p q ≡ same (take (min p.len q.len) (bits (bytes_of p))) (take (min p.len q.len) (bits (bytes_of q)))
some_overlap p q some = rw (overlap_shorter p q, lt-ltb 0 p.len (omega arith), lt-ltb 0 q.len (omega arith))

-- two prefixes that hold one address overlap
pub hold_overlap : (p q : Prefix) (a : List ℕ) → holds p a ≡ true → holds q a ≡ true → overlap p q ≡ true
unfolding holds agrees
hold_overlap p q a e f =
    let e' = simp (holds, agrees, and-eq-true_iff) at e in
    let f' = simp (holds, agrees, and-eq-true_iff) at f in
    let shared : Shared p q =
    fewer _ p.len (bytes_of p) a (min-le_left p.len q.len) (same_true _ _ e'.1.1)
    ∙ sym (fewer _ q.len (bytes_of q) a (min-le_right p.len q.len) (same_true _ _ f'.1.1)) in
    rw (overlap_shorter p q, e'.1.0, f'.1.0) (eq_same _ _ shared)

pub overlap-sym : (p q : Prefix) → overlap p q ≡ true → overlap q p ≡ true
unfolding overlap
overlap-sym p q e =
    let h = simp (overlap, and-eq-true_iff) at e in
    simp (overlap, and-eq-true_iff) ((h.0.1, h.0.0), or_comm (holds_prefix q p) (holds_prefix p q) ∙ h.1)

-- a prefix that another holds holds nothing that the other does not
pub held-holds : (p q : Prefix) (a : List ℕ) → holds_prefix p q ≡ true → holds q a ≡ true → holds p a ≡ true
unfolding holds agrees holds_prefix
held-holds p q a e f =
    let e' = simp (holds_prefix, agrees, and-eq-true_iff) at e in
    let f' = simp (holds, agrees, and-eq-true_iff) at f in
    let own = same_true _ _ e'.1.1 ∙ fewer p.len q.len (bytes_of q) a (leb-true _ _ e'.0) (same_true _ _ f'.1.1) in
    simp (holds, agrees, and-eq-true_iff) (f'.0, (e'.1.0, eq_same _ _ own))

-- a prefix holds a longer one exactly if they overlap
pub held_as_overlap : (p q : Prefix) → holds_prefix p q ≡ (leb p.len q.len && overlap p q)
unfolding holds_prefix agrees
held_as_overlap p q =
    alike _ _
    (λ e. let h = simp (holds_prefix, agrees, and-eq-true_iff) at e in
    let longer : ltb 0 q.len ≡ true = lt-ltb 0 q.len (lt_of_lt_of_le (ltb-true 0 p.len h.1.0) (leb-true p.len q.len h.0)) in
    simp and-eq-true_iff (h.0, rw (overlap_shorter p q, h.1.0, longer) (eq_same _ _ (held_shared p q e))))
    (λ e. let h = simp and-eq-true_iff at e in
    let parts = simp and-eq-true_iff at (sym (overlap_shorter p q) ∙ h.1) in
    shared_held p q (leb-true p.len q.len h.0) parts.0.0 (same_true _ _ parts.1))

-- what holds an address is what overlaps the prefix of this address alone
pub holds_as_overlap : (p : Prefix) (a : List ℕ) → Below 256 a → holds p a ≡ overlap p (of_address a)
unfolding holds agrees
holds_as_overlap p a below = go (eqb (length a) 16) refl
  where
    go : (t : Bool) → eqb (length a) 16 ≡ t → (t && agrees p a) ≡ overlap p (cond t (of_bytes 128 a) no_prefix)
    go false e = rw (overlap_shorter p no_prefix, and-false (ltb 0 p.len))
    go true e =
        let own : length (bits (bytes_of p)) ≡ 128 = rw (length-bits (bytes_of p), length_words p.high p.low) in
        let its = length-bits a in
        let long : length a ≡ 16 = eqb-true (length a) 16 e in
        rw (overlap_shorter p (of_bytes 128 a), bytes_of-bytes 128 a long below, take_min p.len 128 (bits (bytes_of p)) (omega arith), take_min p.len 128 (bits a) (omega arith), and-true)
