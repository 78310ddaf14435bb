-- `search::SameGround::of` meets its contract.
use Rattle.search.proofs.Laws.Questions.{asks_the_ground}
use Rattle.search.proofs.SameGround.of.Goals as goal

pub returns-clause-asks : goal.returns-clause-asks
returns-clause-asks c = asks_the_ground c.args.area c.normal.ensures
