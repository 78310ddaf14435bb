-- RFC 4291: the addresses that the rules name, each of 16 bytes.
use Rattle.std.specs.Prelude.{ℕ, ◌≡◌, ◌↔◌, ◌≢◌, Bool, true, not, ◌&&◌, List, [], ◌∷◌, ◌++◌, eqb, length, get_or, replicate}
use Rattle.octets.specs.Runs.{same}

-- first byte FF
unfoldable pub multicast : List ℕ → Bool
multicast a = eqb (get_or a 0 0) 0xff

-- fifteen zeros and a last byte
abbrev pub zeros_then : ℕ → List ℕ
zeros_then last = replicate 15 0 ++ last ∷ []

-- ::1
abbrev pub loopback : List ℕ → Bool
loopback a = same a (zeros_then 1)

-- ::
abbrev pub unspecified : List ℕ → Bool
unspecified a = same a (zeros_then 0)

-- next-hop: what can be a neighbour's address, 16 bytes that are neither :: nor ::1 nor multicast
unfoldable pub good_hop : List ℕ → Bool
good_hop a = eqb (length a) 16 && not (unspecified a) && not (loopback a) && not (multicast a)

-- in the rules' numbers, without a test
abbrev pub GoodHops : Type 0
GoodHops = (a : List ℕ) → (good_hop a ≡ true) ↔ ((length a ≡ 16) × (a ≢ replicate 16 0) × (a ≢ replicate 15 0 ++ 1 ∷ []) × (get_or a 0 0 ≢ 0xff))
