-- RFC 4291, appendix A: the interface identifier of a MID, and the MID of an address (modified EUI-64).
use Rattle.std.specs.Prelude.{ℕ, ◌+◌, ◌-◌, ◌/◌, ◌%◌, Bool, cond, ◌&&◌, List, [], ◌∷◌, ◌++◌, eqb, get_or, take, drop, replicate, None, Option, Some}
use Rattle.octets.specs.Digits.{mac, big_endian}
use Rattle.ipv6.specs.Address.{good_hop}

-- the bit of value 2 is flipped
unfoldable pub flipped : ℕ → ℕ
flipped b = cond (eqb (b / 2 % 2) 0) (b + 2) (b - 2)

abbrev pub first_flipped : List ℕ → List ℕ
first_flipped [] = []
first_flipped (b ∷ bs) = flipped b ∷ bs

-- FF FE between the halves of the MAC bytes, and the bit flipped in the first
unfoldable pub identifier : ℕ → List ℕ
identifier m = first_flipped (take 3 (mac m) ++ 0xff ∷ 0xfe ∷ drop 3 (mac m))

-- interface-address: fe80::/64 with the identifier
unfoldable pub link_local : ℕ → List ℕ
link_local m = 0xfe ∷ 0x80 ∷ replicate 6 0 ++ identifier m

-- FF FE in the fourth and fifth place
unfoldable pub from_mac : List ℕ → Bool
from_mac i = eqb (get_or i 3 0) 0xff && eqb (get_or i 4 0) 0xfe

-- mid-from-address, the other way: FF FE are dropped, and the bit is flipped back
unfoldable pub mid_of_identifier : List ℕ → ℕ
mid_of_identifier i = big_endian (first_flipped (take 3 i ++ drop 5 i))

-- the identifier of an address is its last 8 bytes; what is no good next hop gives nothing
unfoldable pub mid_of : List ℕ → Option ℕ
mid_of a = cond (good_hop a && from_mac (drop 8 a)) (Some (mid_of_identifier (drop 8 a))) None
