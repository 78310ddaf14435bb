-- The packet at a place of held bytes, by the number that is read there: broken, too long, cut, or there.
use Rattle.std.specs.Prelude.{Option, Some, None}
use Prim.Native.Nat.{ℕ, ◌+◌, ◌-◌, ◌≤◌, ◌<◌}
use native.Mathlib.Omega.{arith}
use mathlib.Core.Path.{◌≡◌, refl, sym, ◌∙◌, ap}
use mathlib.Core.Bool.{Bool, true, false, cond, ◌&&◌}
use mathlib.Core.List.{List}
use lib.Dec.{leb}
use lib.ListN.{length, drop, length-drop}
use borrow.Author.Tests.{le-leb, lt-leb}
use Rattle.std.proofs.lemmas.Option.{none-some, some_pair_parts}
use Rattle.numbers.specs.Numbers.{read_number, read_at, shifted}
use Rattle.numbers.proofs.Laws.Written.{read_length}
use Rattle.queues.specs.Packets.{whole, front}

-- a number that is read at a place is read in front of the bytes from there on
pub record ReadThere (l : List ℕ) (at n start : ℕ) : Type 0 where
  pub digits : ℕ
  pub reads : read_number (drop at l) ≡ Some (n, digits)
  pub behind : start ≡ at + digits
  pub within : start ≤ length l

pub read_there : (l : List ℕ) (at n start : ℕ) → read_at l at ≡ Some (n, start) → ReadThere l at n start
unfolding read_at
read_there l at n start e = go (read_number (drop at l)) refl e
  where
    go : (r : Option (ℕ × ℕ)) → read_number (drop at l) ≡ r → shifted at r ≡ Some (n, start) → ReadThere l at n start
    go None p q = absurd (none-some (n, start) q)
    go (Some (m, k)) p q =
        let same = some_pair_parts m n (at + k) start q in
        let reads : read_number (drop at l) ≡ Some (n, k) = p ∙ ap (λ (x : ℕ). Some (x, k)) same.0 in
        let there = read_length (drop at l) n k reads in
        record { digits = k; reads = reads; behind = sym same.1; within = omega (arith, there.0, there.1, length-drop at l) }

pub broken : (l : List ℕ) (at : ℕ) → read_at l at ≡ None → None ≡ shifted at (front (drop at l))
unfolding read_at front
broken l at e = go (read_number (drop at l)) refl e
  where
    go : (r : Option (ℕ × ℕ)) → read_number (drop at l) ≡ r → shifted at r ≡ None → None ≡ shifted at (whole (drop at l) r)
    go None p q = refl
    go (Some (m, k)) p q = absurd (none-some (m, at + k) (sym q))

module _ (l : List ℕ) (at n start : ℕ) (e : read_at l at ≡ Some (n, start)) where
  r : ReadThere l at n start
  r = read_there l at n start e

  judged : (b : Bool) → (leb n 1280 && leb (r.digits + n) (length (drop at l))) ≡ b → shifted at (front (drop at l)) ≡ shifted at (cond b (Some (n, r.digits)) None)
  unfolding front
  judged b h = rw (r.reads, h)

  pub too_long : 1280 < n → None ≡ shifted at (front (drop at l))
  too_long h = sym (judged false (rw (lt-leb n 1280 h)))

  pub cut : length l - start < n → None ≡ shifted at (front (drop at l))
  cut h = sym (judged false (rw (lt-leb (r.digits + n) (length (drop at l)) (omega (arith, length-drop at l, r.behind, r.within))) (go (leb n 1280))))
    where
      go : (b : Bool) → (b && false) ≡ false
      go true = refl
      go false = refl

  pub there : n ≤ 1280 → n ≤ length l - start → Some (n, start) ≡ shifted at (front (drop at l))
  there h k =
      ap (λ (x : ℕ). Some (n, x)) r.behind
      ∙ sym (judged true (rw (le-leb n 1280 h, le-leb (r.digits + n) (length (drop at l)) (omega (arith, length-drop at l, r.behind, r.within)))))
