-- `prefixes::good`: the first place with a bad prefix decides.
use Prim.Native.Nat.{min, ◌<◌}
use native.Mathlib.Omega.{arith}
use mathlib.Core.Path.{◌≡◌, sym, ◌∙◌, ap}
use mathlib.Core.Bool.{◌&&◌}
use lib.Dec.{ltb}
use borrow.Author.Tests.{lt-ltb}
use Rattle.prefix.specs.declared.Prefix.{Prefix}
use Rattle.prefix.specs.Prefix.{good_prefix}
use Rattle.prefixes.specs.Prefixes.{place}
use Rattle.prefixes.proofs.Laws.Listed.{good_all, good_not}
use Rattle.prefixes.proofs.good.Goals as goal

pub returns-then-not-listable : goal.returns-then-not-listable
returns-then-not-listable c =
    let s = c.args.s in
    let k = c.loop-k.k in
    let below : k < min s.count 4 = omega arith in
    let is : c.at-p.result ≡ place s k = c.at-p.ensures ∙ rw (lt-ltb k s.count (omega arith)) in
    sym (good_not s k below (ap (λ (p : Prefix). ltb 0 p.len && good_prefix p) (sym is) ∙ rw (← c.good.ensures) c.if-not-listable.true))

pub returns : goal.returns
returns c = sym (good_all c.args.s (λ j h. c.loop-k.invariant j (omega arith)))
