-- `prefix::bytes_of` meets its contract.
use native.Mathlib.Nat.{div-one}
use Rattle.octets.specs.Digits.{digits}
use Rattle.prefix.proofs.bytes_of.Goals as goal

pub returns : goal.returns
unfolding digits
returns c = rw (c.copy_from_slice.ensures.after, c.copy_from_slice-2.ensures.after, c.to_be_bytes.ensures, c.to_be_bytes-2.ensures) (simp div-one)
