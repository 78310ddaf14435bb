-- `prefix::may_overlap`: what the first words tell is told by the bits of the shorter.
use Prim.Native.Nat.{min, ◌<◌}
use native.Mathlib.Omega.{arith}
use mathlib.Core.Path.{◌∙◌}
use Rattle.std.proofs.lemmas.Bool.Decides.{nat_tests}
use Rattle.prefix.specs.Prefix.{may_overlap}
use Rattle.prefix.proofs.Laws.Overlap.{some_overlap}
use Rattle.prefix.proofs.may_overlap.Goals as goal

pub returns-then-n : goal.returns-then-n
unfolding may_overlap
returns-then-n c = rw (← c.min-n.ensures, c.if-n.true)

pub returns : goal.returns
unfolding may_overlap
returns c =
    let args = c.args in
    let some : 0 < min args.p.len args.q.len = grind (arith, nat_tests) in
    c.same_first_bits.ensures ∙ rw (some_overlap args.p args.q some, ← c.min-n.ensures, c.if-n.false)
