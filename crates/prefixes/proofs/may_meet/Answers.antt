-- `prefixes::may_meet` meets its contract.
use Rattle.prefixes.specs.Prefixes.{may_meet}
use Rattle.prefixes.proofs.may_meet.Goals as goal

pub returns : goal.returns
unfolding may_meet
returns c = rw (c.may_overlap.ensures, c.place.ensures)
