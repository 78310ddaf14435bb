-- `prefixes::meets`: the first place that overlaps decides.
use native.Mathlib.Omega.{arith}
use mathlib.Core.Path.{sym, ◌∙◌, ap}
use Rattle.prefix.specs.declared.Prefix.{Prefix}
use Rattle.prefix.specs.Prefix.{overlap}
use Rattle.prefixes.proofs.Laws.Listed.{meets_found, meets_not}
use Rattle.prefixes.proofs.meets.Goals as goal

pub returns-then-overlaps : goal.returns-then-overlaps
returns-then-overlaps c =
    let a = c.args in
    sym (meets_found a.s a.p c.loop-k.k (omega arith) (ap (λ (q : Prefix). overlap q a.p) (sym c.at.ensures) ∙ sym c.overlaps.ensures ∙ c.if-overlaps.true))

pub returns : goal.returns
returns c = sym (meets_not c.args.s c.args.p (λ j h. c.loop-k.invariant j (omega arith)))
