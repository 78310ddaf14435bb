-- RULES, Prefix: what a prefix holds, which two overlap, and which are good.
use Rattle.std.specs.Prelude.{ℕ, ◌+◌, ◌/◌, min, Bool, true, cond, not, ◌&&◌, ◌||◌, List, ◌∷◌, ◌++◌, length, take, drop, replicate, eqb, leb, ltb}
use Rattle.octets.specs.Digits.{digits, big_endian, bits}
use Rattle.octets.specs.Runs.{same, all_zero}
use Rattle.prefix.specs.declared.Prefix.{Prefix}

-- the 16 bytes that two words stand for
abbrev pub word_bytes : ℕ → ℕ → List ℕ
word_bytes high low = digits 256 8 high ++ digits 256 8 low

abbrev pub bytes_of : Prefix → List ℕ
bytes_of p = word_bytes p.high p.low

-- the prefix with these 16 bytes
abbrev pub of_bytes : ℕ → List ℕ → Prefix
of_bytes len bytes = record { len = len; high = big_endian (take 8 bytes); low = big_endian (take 8 (drop 8 bytes)) }

-- prefix-none: length 0 means none
abbrev pub no_prefix : Prefix
no_prefix = record { len = 0; high = 0; low = 0 }

-- prefix-holds: the first bits, as many as the prefix's length, equal its own; none holds nothing
unfoldable pub agrees : Prefix → List ℕ → Bool
agrees p bytes = ltb 0 p.len && same (take p.len (bits (bytes_of p))) (take p.len (bits bytes))

-- an address is 16 bytes
unfoldable pub holds : Prefix → List ℕ → Bool
holds p address = eqb (length address) 16 && agrees p address

-- a prefix no shorter
unfoldable pub holds_prefix : Prefix → Prefix → Bool
holds_prefix p q = leb p.len q.len && agrees p (bytes_of q)

-- the prefix that holds this address and no other
abbrev pub of_address : List ℕ → Prefix
of_address address = cond (eqb (length address) 16) (of_bytes 128 address) no_prefix

-- prefix-overlap: one holds the other, and neither is none
unfoldable pub overlap : Prefix → Prefix → Bool
overlap p q = ltb 0 p.len && ltb 0 q.len && (holds_prefix p q || holds_prefix q p)

-- what a look at the first words tells: where the shorter has 1 to 64 bits whether they overlap, else nothing
unfoldable pub may_overlap : Prefix → Prefix → Bool
may_overlap p q = cond (eqb (min p.len q.len) 0 || ltb 64 (min p.len q.len)) true (overlap p q)

-- prefix-reserved: fe80::/10 and ff00::/8
abbrev pub link_local_prefix : Prefix
link_local_prefix = of_bytes 10 (0xfe ∷ 0x80 ∷ replicate 14 0)

abbrev pub multicast_prefix : Prefix
multicast_prefix = of_bytes 8 (0xff ∷ replicate 15 0)

-- prefix-good: no longer length, no bit set past the length, no overlap with fe80::/10 or ff00::/8
unfoldable pub good_prefix : Prefix → Bool
good_prefix p =
    leb p.len 128
    && all_zero (drop p.len (bits (bytes_of p)))
    && not (overlap p link_local_prefix)
    && not (overlap p multicast_prefix)

-- record-prefix: as many bytes as a length needs; a length above 128 needs no more than an address has
abbrev pub bytes_needed : ℕ → ℕ
bytes_needed len = (min len 128 + 7) / 8
