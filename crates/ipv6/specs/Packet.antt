-- RULES, What arrives (packet-refusals): what makes an IPv6 packet bad, in this order, and where in it (packet-place).
use Rattle.std.specs.Prelude.{ℕ, ◌+◌, ◌/◌, ◌≡◌, ◌≢◌, Bool, cond, not, ◌||◌, List, [], eqb, ltb, length, get_or, take, drop}
use Rattle.octets.specs.Digits.{big_endian}
use Rattle.replies.specs.Rules.{Rule, ◌if◌, ◌then◌}
use Rattle.ipv6.specs.Address.{multicast, loopback, unspecified}

-- the header's fields (RFC 8200)
abbrev pub version : List ℕ → ℕ
version p = get_or p 0 0 / 16

abbrev pub payload_length : List ℕ → ℕ
payload_length p = big_endian (take 2 (drop 4 p))

abbrev pub source : List ℕ → List ℕ
source p = take 16 (drop 8 p)

abbrev pub destination : List ℕ → List ℕ
destination p = take 16 (drop 24 p)

-- reply-10: source multicast or ::1, or destination :: or ::1
unfoldable pub forbidden : List ℕ → Bool
forbidden p = multicast (source p) || loopback (source p) || unspecified (destination p) || loopback (destination p)

unfoldable pub packet_rules : List ℕ → List Rule
packet_rules p =
    9 if ltb 1280 (length p)
    then 20 if ltb (length p) 40
    then 21 if not (eqb (version p) 6)
    then 22 if not (eqb (payload_length p + 40) (length p))
    then 10 if forbidden p
    then []

-- packet-place: the packet's length for 20, 4 for 22; 0 for 21, as for every other number
unfoldable pub fault_place : ℕ → List ℕ → ℕ
fault_place n p = cond (eqb n 20) (length p) (cond (eqb n 22) 4 0)

-- a reply of this number has this place in the packet, number by number
pub record Placed (p : List ℕ) (number place : ℕ) : Type 0 where
  pub short : number ≡ 20 → place ≡ length p
  pub other_version : number ≡ 21 → place ≡ 0
  pub length_field : number ≡ 22 → place ≡ 4
  pub other : number ≢ 20 → number ≢ 21 → number ≢ 22 → place ≡ 0
