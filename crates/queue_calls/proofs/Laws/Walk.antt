-- The walk over held bytes, by place: one turn, and each way out.
use Rattle.std.specs.Prelude.{Option, Some, None}
use Prim.Native.Nat.{ℕ, suc, ◌+◌, ◌-◌, ◌≤◌, ◌<◌}
use native.Mathlib.Omega.{arith}
use mathlib.Core.Path.{◌≡◌, refl, sym, ◌∙◌, ap}
use mathlib.Core.Bool.{Bool, true, false, ◌&&◌}
use mathlib.Core.List.{List}
use lib.ListN.{length, drop, length-drop}
use lib.Seq.{drop-drop}
use borrow.Author.Tests.{eq-eqb, ne_eqb}
use Rattle.std.proofs.lemmas.Option.{none-some, some_pair_parts}
use Rattle.numbers.specs.Numbers.{shifted}
use Rattle.queues.specs.Packets.{front, is_good, bytes_of, walks}
use Rattle.queues.proofs.Laws.Packets.{front-within, walks-enough}

-- the walk over all of some bytes
abbrev pub walked : List ℕ → Bool
walked l = walks (length l) l

turn : (l : List ℕ) (f : ℕ) → length l ≡ suc f → walked l ≡ (is_good (front l) && walks f (drop (bytes_of (front l)) l))
unfolding walks
turn l f e = ap (λ (x : ℕ). walks x l) e ∙ rw (ne_eqb (length l) 0 (λ z. omega arith))

some : (l : List ℕ) → 0 < length l → length l ≡ suc (length l - 1)
some l h = omega arith

pub ends : (l : List ℕ) → length l ≡ 0 → true ≡ walked l
unfolding walks
ends l e = sym (ap (λ (x : ℕ). walks x l) e ∙ eq-eqb (length l) 0 e)

pub stops : (l : List ℕ) → 0 < length l → front l ≡ None → false ≡ walked l
stops l h e = sym (turn l (length l - 1) (some l h) ∙ rw e)

pub goes_on : (l : List ℕ) (n k : ℕ) → front l ≡ Some (n, k) → walked l ≡ walked (drop (k + n) l)
goes_on l n k e =
    let w = front-within l n k e in
    let shorter : length (drop (k + n) l) ≤ length l - 1 = omega (arith, w.0, length-drop (k + n) l) in
    turn l (length l - 1) (some l (omega (arith, w.0, w.1))) ∙ rw e (walks-enough (length l - 1) (drop (k + n) l) shorter)

-- a packet that was found at a place
pub record Found (l : List ℕ) (at n start : ℕ) : Type 0 where
  pub on : at < start + n
  pub within : start + n ≤ length l
  pub rest : walked (drop at l) ≡ walked (drop (start + n) l)

pub found : (l : List ℕ) (at n start : ℕ) → at ≤ length l → shifted at (front (drop at l)) ≡ Some (n, start) → Found l at n start
found l at n start h e = go (front (drop at l)) refl e
  where
    go : (r : Option (ℕ × ℕ)) → front (drop at l) ≡ r → shifted at r ≡ Some (n, start) → Found l at n start
    go None p q = absurd (none-some (n, start) q)
    go (Some (m, k)) p q =
        let same = some_pair_parts m n (at + k) start q in
        let w = front-within (drop at l) m k p in
        let size = length-drop at l in
        let behind : at + (k + m) ≡ start + n = omega (arith, same.0, same.1) in
        record {
          on = omega (arith, behind, w);
          within = omega (arith, behind, w, size);
          rest = goes_on (drop at l) m k p ∙ ap walked (drop-drop (k + m) at l ∙ ap (λ (x : ℕ). drop x l) behind);
        }

pub not_found : (l : List ℕ) (at : ℕ) → at < length l → shifted at (front (drop at l)) ≡ None → false ≡ walked (drop at l)
not_found l at h e = go (front (drop at l)) refl e
  where
    go : (r : Option (ℕ × ℕ)) → front (drop at l) ≡ r → shifted at r ≡ None → false ≡ walked (drop at l)
    go None p q = stops (drop at l) (omega (arith, length-drop at l)) p
    go (Some (m, k)) p q = absurd (none-some (m, at + k) (sym q))
