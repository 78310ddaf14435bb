-- `links::Table::fresh` meets its contract.
use Prim.Native.Nat.{◌-◌}
use Rattle.links.specs.Calls.{fresh}
use Rattle.links.proofs.Laws.Fresh.{cleared-free}
use Rattle.links.proofs.Table.fresh.Goals as goal

pub returns : goal.returns
unfolding fresh
returns c = rw (c.blank_slot.ensures, cleared-free (c.args.v.max - 1) 64)
