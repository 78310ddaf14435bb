-- `octets::number`: the loop has read the number of the bytes passed, which is below the power of 256 that their count gives.
use Rattle.std.proofs.Common.{◌≡◌, ◌<◌, ◌^◌, take}
use Rattle.octets.specs.Digits.{big_endian}
use Rattle.octets.proofs.number.Given as goal

abbrev pub invariant-loop-b : goal.invariant-loop-b
invariant-loop-b l = record { read : l.n ≡ big_endian (take l.b-index l.s); small : l.n < 256 ^ l.b-index }
