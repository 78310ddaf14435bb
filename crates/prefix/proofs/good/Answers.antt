-- `prefix::good`: the constants of the code are fe80::/10 and ff00::/8.
use Rattle.octets.specs.Digits.{number}
use Rattle.prefix.specs.Prefix.{good_prefix}
use Rattle.prefix.proofs.good.Goals as goal

pub returns : goal.returns
unfolding good_prefix number
returns c = rw (c.is_clear_behind.ensures, c.overlaps.ensures, c.overlaps-2.ensures)
