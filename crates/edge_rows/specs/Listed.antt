-- Prefixes that are written out, and enables that list them.
use Rattle.std.specs.Prelude.{ℕ, List, [], ◌∷◌, ◌++◌, length, get_or, replicate}
use Rattle.prefix.specs.declared.Prefix.{Prefix}
use Rattle.prefix.specs.Prefix.{no_prefix, of_bytes}
use Rattle.prefixes.specs.declared.Prefixes.{Prefixes}
use Rattle.prefixes.specs.Prefixes.{of_four}
use Rattle.links.specs.declared.Settings.{Settings}
use Rattle.links.specs.declared.Table.{Table}
use Rattle.links.specs.Calls.{enable, reply}
use Rattle.edge_rows.specs.Calls.{index_or_zero, circle, rectangle, settings, first, only_stop}

-- a prefix by its length and the bytes that it begins with
abbrev pub begins : ℕ → List ℕ → Prefix
begins len bytes = of_bytes len (bytes ++ replicate 16 0)

-- 2001:db8:n::/48; one inside it, 2001:db8:n:1::/64; an address of it, 2001:db8:n::1; and fe80::/64, which is bad
abbrev pub site : ℕ → Prefix
site n = begins 48 (0x20 ∷ 1 ∷ 0x0d ∷ 0xb8 ∷ 0 ∷ n ∷ [])

abbrev pub inside : ℕ → Prefix
inside n = begins 64 (0x20 ∷ 1 ∷ 0x0d ∷ 0xb8 ∷ 0 ∷ n ∷ 0 ∷ 1 ∷ [])

abbrev pub host : ℕ → List ℕ
host n = 0x20 ∷ 1 ∷ 0x0d ∷ 0xb8 ∷ 0 ∷ n ∷ replicate 9 0 ++ 1 ∷ []

abbrev pub bad : Prefix
bad = begins 64 (0xfe ∷ 0x80 ∷ [])

-- these in the first places, and a count; the count of these
abbrev pub counting : ℕ → List Prefix → Prefixes
counting n l = of_four n (get_or l 0 no_prefix) (get_or l 1 no_prefix) (get_or l 2 no_prefix) (get_or l 3 no_prefix)

abbrev pub listing : List Prefix → Prefixes
listing l = counting (length l) l

-- a stop by its radius and its list, of kind 1 and flag 1; one whose area is not good
abbrev pub stop_with : ℕ → Prefixes → Settings
stop_with n prefixes = settings (circle n 0 0) prefixes 1 1

abbrev pub bad_area_with : Prefixes → Settings
bad_area_with prefixes = settings (rectangle 1 1 360) prefixes 1 1

-- the first stop of a table, by the number that its enable gets
abbrev pub first_with : Prefixes → ℕ
first_with prefixes = first (stop_with 1 prefixes)

-- an enable on a table, by number and link
abbrev pub enabling : Table → Settings → List ℕ
enabling t s = (reply t (enable s)).number ∷ index_or_zero (reply t (enable s)).link ∷ []

-- a second enable, where the only stop has radius 1, 2001:db8:1::/48 and 2001:db8:2::/48
abbrev pub two_prefixes : Settings
two_prefixes = stop_with 1 (listing (site 1 ∷ site 2 ∷ []))

abbrev pub beside_two : Settings → List ℕ
beside_two s = enabling (only_stop two_prefixes) s
