-- `value_table::set_own_mid` meets its contract.
use native.Mathlib.Omega.{arith}
use Rattle.links.specs.Calls.{set_own}
use Rattle.value_table.proofs.Laws.Lent.{answered}
use Rattle.value_table.proofs.set_own_mid.Goals as goal

pub returns : goal.returns
returns c =
    rw c.replied.ensures (answered c.args.t (omega arith) (set_own c.args.mid) c.lent_head.result c.set_own_mid-reply.result c.args.t.slots c.lent_head.ensures c.set_own_mid-reply.ensures)
