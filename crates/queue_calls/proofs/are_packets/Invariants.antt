-- `queue_calls::are_packets`: what is left of the walk decides for the whole of it.
use Prim.Native.Nat.{◌-◌, ◌≤◌}
use mathlib.Core.Path.{◌≡◌}
use lib.ListN.{length, drop}
use Rattle.queue_calls.proofs.Laws.Walk.{walked}
use Rattle.queue_calls.proofs.are_packets.Given as goal

abbrev pub invariant-loop-at : goal.invariant-loop-at
invariant-loop-at l = (l.at ≤ length l.held) × (walked l.held ≡ walked (drop l.at l.held))

abbrev pub decreases-loop-at : goal.decreases-loop-at
decreases-loop-at l = length l.held - l.at
