-- What is listed, kept, met: by the places of a link and its count.
use Prim.Native.Nat.{ℕ, zero, suc, ◌≤◌, ◌<◌, min}
use native.Mathlib.Omega.{arith}
use mathlib.Core.Path.{◌≡◌, refl, sym, ◌∙◌, ap}
use mathlib.Core.Bool.{Bool, true, false, cond, ◌&&◌, ◌||◌, or-false}
use mathlib.Core.List.{List, [], ◌∷◌}
use lib.Dec.{eqb, ltb}
use borrow.Author.Tests.{le-ltb, lt-ltb, ltb-true}
use Rattle.octets.proofs.Laws.Tests.{clash}
use Rattle.prefix.specs.declared.Prefix.{Prefix}
use Rattle.prefix.specs.Prefix.{no_prefix, overlap, may_overlap, good_prefix}
use Rattle.prefix.proofs.Laws.Overlap.{overlap_may}
use Rattle.prefixes.specs.declared.Prefixes.{Prefixes}
use Rattle.prefixes.specs.Prefixes.{place, listed, listed_at, any_of, all_of, within, good_prefixes, meets, overlapping, overlap_within, may_meet, no_prefixes, of_four, kept, single}
use Rattle.prefixes.proofs.Laws.Count.{Count, none, one, two, three, four, more, count, overlap-none, none-overlap, one-of_four, fails-of_four, all_first, blanked, blanked_twice, any-first, any_blanked}

pub listed_kept : (s : Prefixes) → listed (kept s) ≡ listed s
unfolding listed
listed_kept s = blanked (place s 0) (place s 1) (place s 2) (place s 3) (count s.count)

pub kept_twice : (s : Prefixes) → kept (kept s) ≡ kept s
kept_twice s = blanked_twice (place s 0) (place s 1) (place s 2) (place s 3) (count s.count)

-- nothing stands past the count
pub kept-blank : (s : Prefixes) (k : ℕ) → s.count ≤ k → place (kept s) k ≡ no_prefix
kept-blank s zero h = rw (le-ltb 0 s.count h)
kept-blank s (suc zero) h = rw (le-ltb 1 s.count h)
kept-blank s (suc (suc zero)) h = rw (le-ltb 2 s.count h)
kept-blank s (suc (suc (suc zero))) h = rw (le-ltb 3 s.count h)
kept-blank s (suc (suc (suc (suc k)))) h = refl

-- what is defined by the list is the same of what is kept
pub good-kept : (s : Prefixes) → good_prefixes (kept s) ≡ good_prefixes s
unfolding good_prefixes
good-kept s = ap (all_of (λ p. ltb 0 p.len && good_prefix p)) (listed_kept s)

pub within-kept : (s : Prefixes) → overlap_within (kept s) ≡ overlap_within s
unfolding overlap_within
within-kept s = ap within (listed_kept s)

pub overlapping-kept : (r s : Prefixes) → overlapping r (kept s) ≡ overlapping r s
unfolding overlapping
overlapping-kept r s = ap (any_of (meets r)) (listed_kept s)

pub meets-none : (s : Prefixes) → meets s no_prefix ≡ false
unfolding meets any_of
meets-none s = go (listed s)
  where
    go : (l : List Prefix) → any_of (λ q. overlap q no_prefix) l ≡ false
    go [] = refl
    go (p ∷ l) = rw (overlap-none p) (go l)

-- a place past the count is none, which nothing meets
pub meets_at_lem : (r s : Prefixes) → overlapping r s ≡ (meets r (listed_at s 0) || (meets r (listed_at s 1) || (meets r (listed_at s 2) || meets r (listed_at s 3))))
unfolding overlapping listed
meets_at_lem r s = any_blanked (place s 0) (place s 1) (place s 2) (place s 3) (meets r) (meets-none r) (count s.count)

-- by the places, one after the other
abbrev pub place_meets : Prefixes → Prefix → ℕ → Bool
place_meets s p k = ltb k s.count && overlap (place s k) p

pub meets-places : (s : Prefixes) (p : Prefix) → meets s p ≡ (place_meets s p 0 || (place_meets s p 1 || (place_meets s p 2 || place_meets s p 3)))
unfolding meets listed
meets-places s p = any-first (place s 0) (place s 1) (place s 2) (place s 3) (λ q. overlap q p) (count s.count)

module _ (s : Prefixes) where
  -- by what is listed at each place
  abbrev pub listed_meets : Prefix → ℕ → Bool
  listed_meets p k = overlap (listed_at s k) p

  meets-listed : (p : Prefix) → meets s p ≡ (listed_meets p 0 || (listed_meets p 1 || (listed_meets p 2 || listed_meets p 3)))
  unfolding meets listed
  meets-listed p = any_blanked (place s 0) (place s 1) (place s 2) (place s 3) (λ q. overlap q p) (none-overlap p) (count s.count)

  pub meets_found : (p : Prefix) (k : ℕ) → k < 4 → listed_meets p k ≡ true → meets s p ≡ true
  meets_found p k h e = meets-listed p ∙ one-of_four (listed_meets p) k h e

  pub meets_not : (p : Prefix) → ((k : ℕ) → k < 4 → listed_meets p k ≡ false) → meets s p ≡ false
  meets_not p f = meets-listed p ∙ rw (f 0 (omega arith), f 1 (omega arith), f 2 (omega arith), f 3 (omega arith))

  abbrev pub listable : ℕ → Bool
  listable k = ltb 0 (place s k).len && good_prefix (place s k)

  abbrev where_listed : ℕ → Bool
  where_listed k = cond (ltb k s.count) (listable k) true

  good-places : good_prefixes s ≡ (where_listed 0 && where_listed 1 && where_listed 2 && where_listed 3)
  unfolding good_prefixes listed
  good-places = all_first (place s 0) (place s 1) (place s 2) (place s 3) (λ p. ltb 0 p.len && good_prefix p) (count s.count)

  pub good_all : ((k : ℕ) → k < min s.count 4 → listable k ≡ true) → good_prefixes s ≡ true
  good_all f =
      let at : (k : ℕ) → k < 4 → where_listed k ≡ true = λ k h. go k h (ltb k s.count) refl in
      good-places ∙ rw (at 0 (omega arith), at 1 (omega arith), at 2 (omega arith), at 3 (omega arith))
    where
      go : (k : ℕ) → k < 4 → (t : Bool) → ltb k s.count ≡ t → cond t (listable k) true ≡ true
      go k h true e = f k (omega (arith, ltb-true k s.count e))
      go k h false e = refl

  pub good_not : (k : ℕ) → k < min s.count 4 → listable k ≡ false → good_prefixes s ≡ false
  good_not k h e = good-places ∙ fails-of_four where_listed k (omega arith) (rw (lt-ltb k s.count (omega arith), e))

-- a link that is passed over has nothing that overlaps
pub may_meet_lem : (s : Prefixes) (p : Prefix) → meets s p ≡ true → may_meet s p ≡ true
unfolding may_meet
may_meet_lem s p e = go (count s.count) (sym (meets-places s p) ∙ e)
  where
    go : {n : ℕ} {i j k l : Bool} → Count n i j k l
        → ((i && overlap (place s 0) p) || ((j && overlap (place s 1) p) || ((k && overlap (place s 2) p) || (l && overlap (place s 3) p)))) ≡ true
        → (j || may_overlap (place s 0) p) ≡ true
    go none h = clash h refl
    go one h = overlap_may (place s 0) p (sym (or-false (overlap (place s 0) p)) ∙ h)
    go two h = refl
    go three h = refl
    go four h = refl
    go more h = refl

pub single-listed : (p : Prefix) → listed (single p) ≡ cond (eqb p.len 0) [] (p ∷ [])
unfolding listed
single-listed p = go (eqb p.len 0)
  where
    go : (b : Bool) → listed (cond b no_prefixes (of_four 1 p no_prefix no_prefix no_prefix)) ≡ cond b [] (p ∷ [])
    go true = refl
    go false = refl
