-- `prefixes::meets`: what is listed at the places passed does not overlap.
use Rattle.std.proofs.Common.{◌≡◌, ℕ, ◌<◌, false}
use Rattle.prefixes.proofs.Laws.Listed.{listed_meets}
use Rattle.prefixes.proofs.meets.Given as goal

abbrev pub invariant-loop-k : goal.invariant-loop-k
invariant-loop-k l = (j : ℕ) → j < l.k → listed_meets l.s l.p j ≡ false
