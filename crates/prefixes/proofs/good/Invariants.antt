-- `prefixes::good`: what is listed at the places passed is good.
use Rattle.std.proofs.Common.{◌≡◌, ℕ, ◌<◌, true}
use Rattle.prefixes.proofs.Laws.Listed.{listable}
use Rattle.prefixes.proofs.good.Given as goal

abbrev pub invariant-loop-k : goal.invariant-loop-k
invariant-loop-k l = (j : ℕ) → j < l.k → listable l.s j ≡ true
