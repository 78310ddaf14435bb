-- `value_table::enable` meets its contract.
use native.Mathlib.Omega.{arith}
use Rattle.links.specs.Calls.{enable}
use Rattle.value_table.proofs.Laws.Lent.{answered}
use Rattle.value_table.proofs.enable.Goals as goal

pub returns : goal.returns
returns c =
    rw c.replied.ensures (answered c.args.t (omega arith) (enable c.args.s) c.lent_head-head.result c.enable-reply.result c.enable-reply.new.run c.lent_head-head.ensures c.enable-reply.ensures)
