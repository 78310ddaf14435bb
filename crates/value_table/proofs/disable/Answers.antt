-- `value_table::disable` meets its contract.
use native.Mathlib.Omega.{arith}
use Rattle.links.specs.Calls.{disable}
use Rattle.value_table.proofs.Laws.Lent.{answered}
use Rattle.value_table.proofs.disable.Goals as goal

pub returns : goal.returns
returns c =
    rw c.replied.ensures (answered c.args.t (omega arith) (disable c.args.index) c.lent_head-head.result c.disable-reply.result c.disable-reply.new.run c.lent_head-head.ensures c.disable-reply.ensures)
