-- RULES, Prefix: the prefixes of one stop link, in the order given: four places and a count.
use Rattle.std.specs.Prelude.{ℕ, ◌≡◌, ◌↔◌, ◌⊎◌, Bool, true, false, cond, ◌&&◌, ◌||◌, List, [], ◌∷◌, eqb, ltb, take, get_or}
use Rattle.prefix.specs.declared.Prefix.{Prefix}
use Rattle.prefix.specs.Prefix.{no_prefix, holds, overlap, may_overlap, good_prefix}
use Rattle.prefixes.specs.declared.Prefixes.{Prefixes}

-- the prefix at a place, and the four places
abbrev pub place : Prefixes → ℕ → Prefix
place s k = record { len = get_or s.lens k 0; high = get_or s.highs k 0; low = get_or s.lows k 0 }

abbrev pub places : Prefixes → List Prefix
places s = place s 0 ∷ place s 1 ∷ place s 2 ∷ place s 3 ∷ []

-- prefix-list: the prefixes of a link are those of the first places, as many as the count says; places past it are not looked at
unfoldable pub listed : Prefixes → List Prefix
listed s = take s.count (places s)

-- does one of a list pass a test? do all?
unfoldable pub any_of : (Prefix → Bool) → List Prefix → Bool
any_of q [] = false
any_of q (p ∷ l) = q p || any_of q l

unfoldable pub all_of : (Prefix → Bool) → List Prefix → Bool
all_of q [] = true
all_of q (p ∷ l) = q p && all_of q l

-- reply-29: more than four
abbrev pub too_many : Prefixes → Bool
too_many s = ltb 4 s.count

-- prefix-listed: every listed prefix is good, and none has length 0
unfoldable pub good_prefixes : Prefixes → Bool
good_prefixes s = all_of (λ p. ltb 0 p.len && good_prefix p) (listed s)

-- one of its prefixes holds the address
unfoldable pub holds_any : Prefixes → List ℕ → Bool
holds_any s address = any_of (λ p. holds p address) (listed s)

-- one of its prefixes overlaps this one; one of the first link's overlaps one of the second's
unfoldable pub meets : Prefixes → Prefix → Bool
meets s p = any_of (λ q. overlap q p) (listed s)

unfoldable pub overlapping : Prefixes → Prefixes → Bool
overlapping r s = any_of (meets r) (listed s)

-- prefix-within: a prefix of the list overlaps one behind it
unfoldable pub within : List Prefix → Bool
within [] = false
within (p ∷ l) = any_of (overlap p) l || within l

unfoldable pub overlap_within : Prefixes → Bool
overlap_within s = within (listed s)

-- settings-equal: the same set of prefixes
unfoldable pub Among : Prefix → List Prefix → Type 0
Among p [] = ⊥
Among p (q ∷ l) = (p ≡ q) ⊎ Among p l

abbrev pub SameSet : Prefixes → Prefixes → Type 0
SameSet r s = (p : Prefix) → Among p (listed r) ↔ Among p (listed s)

-- no prefixes
abbrev pub no_prefixes : Prefixes
no_prefixes = record { count = 0; lens = 0 ∷ 0 ∷ 0 ∷ 0 ∷ []; highs = 0 ∷ 0 ∷ 0 ∷ 0 ∷ []; lows = 0 ∷ 0 ∷ 0 ∷ 0 ∷ [] }

-- the prefix listed at a place; none past the count
abbrev pub listed_at : Prefixes → ℕ → Prefix
listed_at s k = cond (ltb k s.count) (place s k) no_prefix

-- these four, of which as many count
abbrev pub of_four : ℕ → Prefix → Prefix → Prefix → Prefix → Prefixes
of_four n a b c d = record {
  count = n;
  lens = a.len ∷ b.len ∷ c.len ∷ d.len ∷ [];
  highs = a.high ∷ b.high ∷ c.high ∷ d.high ∷ [];
  lows = a.low ∷ b.low ∷ c.low ∷ d.low ∷ [];
}

-- prefix-kept: the same prefixes, and the places past the count are blank
abbrev pub kept : Prefixes → Prefixes
kept s = of_four s.count (listed_at s 0) (listed_at s 1) (listed_at s 2) (listed_at s 3)

-- record-list: one prefix; none where its length is 0
abbrev pub single : Prefix → Prefixes
single p = cond (eqb p.len 0) no_prefixes (of_four 1 p no_prefix no_prefix no_prefix)

-- what a look at the first place tells: where there are more prefixes, nothing
unfoldable pub may_meet : Prefixes → Prefix → Bool
may_meet s p = ltb 1 s.count || may_overlap (place s 0) p
