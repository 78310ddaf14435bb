-- `octets::mac_of` meets its contract.
use native.Mathlib.Nat.{div-one}
use Rattle.octets.specs.Digits.{digits}
use Rattle.octets.proofs.mac_of.Goals as goal

pub returns : goal.returns
unfolding digits
returns c = rw c.to_be_bytes.ensures (simp div-one)
