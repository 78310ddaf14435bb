-- Whether a slot has a prefix that overlaps one of a list: each that is listed is asked for.
use Prim.Native.Nat.{ℕ, zero, suc, ◌≤◌, min}
use native.Mathlib.Omega.{arith}
use mathlib.Core.Path.{◌≡◌, refl, ◌∙◌, ap}
use mathlib.Core.Bool.{Bool, true, false, ◌&&◌, ◌||◌, or-false}
use mathlib.Core.List.{List, [], ◌∷◌}
use borrow.Author.Tests.{le-ltb}
use Rattle.std.specs.List.{list_any, range_with_len}
use Rattle.prefix.specs.Prefix.{no_prefix}
use Rattle.prefixes.specs.declared.Prefixes.{Prefixes}
use Rattle.prefixes.specs.Prefixes.{overlapping, meets, listed_at}
use Rattle.prefixes.proofs.Laws.Listed.{meets_at_lem, meets-none}
use Rattle.links.specs.declared.Settings.{Settings}
use Rattle.links.specs.declared.Slot.{Slot}
use Rattle.links.specs.Slots.{any, with}
use Rattle.search.specs.Search.{overlapping as overlaps}

either_way : (on p q k m n : Bool) → k ≡ (m || n) → ((on && (p || q)) || k) ≡ (((on && p) || m) || ((on && q) || n))
either_way false p q k m n e = e
either_way true true q k m n e = refl
either_way true false true k true n e = refl
either_way true false true k false n e = refl
either_way true false false k m n e = e

-- a link passes one of two tests: one passes the first, or one the second
pub any_either : (p q : Settings → Bool) (l : List Slot) → any (with (λ x. p x || q x)) l ≡ (any (with p) l || any (with q) l)
unfolding any
any_either p q [] = refl
any_either p q (x ∷ l) =
    either_way x.enabled (p x.settings) (q x.settings) (any (with (λ x. p x || q x)) l) (any (with p) l) (any (with q) l) (any_either p q l)

module _ (l : List Slot) (s : Prefixes) where
  -- whether a link among these has a prefix that overlaps the one at a place
  abbrev pub asked_at : ℕ → Bool
  asked_at k = any (with (overlaps (listed_at s k))) l

  abbrev pub whole : Bool
  whole = any (with (λ x. overlapping x.prefixes s)) l

  pub asked_by_place : whole ≡ (asked_at 0 || (asked_at 1 || (asked_at 2 || asked_at 3)))
  asked_by_place =
      ap (λ (q : Settings → Bool). any (with q) l) by_place ∙ any_either (at 0) (λ x. at 1 x || (at 2 x || at 3 x)) l
      ∙ ap (λ b. asked_at 0 || b) (any_either (at 1) (λ x. at 2 x || at 3 x) l ∙ ap (λ b. asked_at 1 || b) (any_either (at 2) (at 3) l))
    where
      at : ℕ → Settings → Bool
      at k x = meets x.prefixes (listed_at s k)

      by_place : ◌≡◌ {A = Settings → Bool} (λ x. overlapping x.prefixes s) (λ x. at 0 x || (at 1 x || (at 2 x || at 3 x)))
      by_place i x = meets_at_lem x.prefixes s i

  -- nothing overlaps what is not listed
  pub none_past : (k : ℕ) → s.count ≤ k → asked_at k ≡ false
  unfolding any
  none_past k h = rw (le-ltb k s.count h) (go l)
    where
      passed : (on b m : Bool) → b ≡ false → m ≡ false → ((on && b) || m) ≡ false
      passed true b m eb em = rw (eb, em)
      passed false b m eb em = em

      go : (l : List Slot) → any (with (overlaps no_prefix)) l ≡ false
      go [] = refl
      go (x ∷ l) = passed x.enabled (meets x.settings.prefixes no_prefix) (any (with (overlaps no_prefix)) l) (meets-none x.settings.prefixes) (go l)

  pub one_is_asked : (n : ℕ) → n ≡ min s.count 4 → list_any asked_at (range_with_len 0 n) ≡ whole
  one_is_asked zero e = rw (asked_by_place, none_past 0 (omega arith), none_past 1 (omega arith), none_past 2 (omega arith), none_past 3 (omega arith))
  one_is_asked (suc zero) e = rw (asked_by_place, none_past 1 (omega arith), none_past 2 (omega arith), none_past 3 (omega arith))
  one_is_asked (suc (suc zero)) e = rw (asked_by_place, none_past 2 (omega arith), none_past 3 (omega arith))
  one_is_asked (suc (suc (suc zero))) e = rw (asked_by_place, none_past 3 (omega arith))
  one_is_asked (suc (suc (suc (suc zero)))) e = rw (asked_by_place, or-false (asked_at 3))
  one_is_asked (suc (suc (suc (suc (suc n))))) e = absurd (omega arith)
