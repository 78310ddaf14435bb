-- `prefix::holds_prefix` meets its contract.
use mathlib.Core.Path.{sym}
use Rattle.prefix.proofs.Laws.Overlap.{held_as_overlap}
use Rattle.prefix.proofs.holds_prefix.Goals as goal

pub returns : goal.returns
returns c =
    let args = c.args in
    rw c.overlaps.ensures (sym (held_as_overlap args.p args.q))
