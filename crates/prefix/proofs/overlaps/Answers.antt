-- `prefix::overlaps`: as far as the shorter of the two goes.
use native.Mathlib.Omega.{arith}
use mathlib.Core.Path.{sym, ◌∙◌}
use Rattle.prefix.proofs.Laws.Overlap.{none_overlaps, some_overlap}
use Rattle.prefix.proofs.overlaps.Goals as goal

pub returns-then-shorter-eq0 : goal.returns-then-shorter-eq0
returns-then-shorter-eq0 c = sym (none_overlaps c.args.p c.args.q (sym c.min-shorter.ensures ∙ c.if-shorter-eq0.true))

pub returns : goal.returns
returns c =
    let args = c.args in
    c.same_first_bits.ensures ∙ rw c.min-shorter.ensures (sym (some_overlap args.p args.q (omega arith)))
