-- RULES, What arrives: an Ethernet frame, and a lent buffer after something is written at its front.
use Rattle.std.specs.Prelude.{ℕ, cond, List, ◌∷◌, ◌++◌, ltb, length, drop}
use Rattle.octets.specs.Digits.{mac}

-- frame-bytes: destination MAC, source MAC, 86 DD, the packet unchanged
unfoldable pub frame : ℕ → ℕ → List ℕ → List ℕ
frame to from packet = mac to ++ mac from ++ 0x86 ∷ 0xdd ∷ packet

-- buffer-rest: what is written, then the bytes as they were; without room for all of it nothing is written
unfoldable pub put : List ℕ → List ℕ → List ℕ
put w buffer = cond (ltb (length buffer) (length w)) buffer (w ++ drop (length w) buffer)

unfoldable pub put_length : List ℕ → List ℕ → ℕ
put_length w buffer = cond (ltb (length buffer) (length w)) 0 (length w)
