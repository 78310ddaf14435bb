-- `value_table::set_dgvl_area` meets its contract.
use native.Mathlib.Omega.{arith}
use Rattle.links.specs.Calls.{set_area}
use Rattle.value_table.proofs.Laws.Lent.{answered}
use Rattle.value_table.proofs.set_dgvl_area.Goals as goal

pub returns : goal.returns
returns c =
    rw c.replied.ensures (answered c.args.t (omega arith) (set_area c.args.a) c.lent_head.result c.set_dgvl_area-reply.result c.args.t.slots c.lent_head.ensures c.set_dgvl_area-reply.ensures)
