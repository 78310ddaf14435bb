-- `prefix::holds_address` meets its contract.
use mathlib.Core.Path.{sym}
use Rattle.prefix.proofs.Laws.Overlap.{holds_as_overlap}
use Rattle.prefix.proofs.holds_address.Goals as goal

pub returns : goal.returns
returns c =
    let args = c.args in
    rw (c.overlaps.ensures, c.of_address.ensures) (sym (holds_as_overlap args.p args.address.now (λ i. (c.type_inv.address i).fits)))
