-- `daylist::read_full`: no more was read than there is room.
use Rattle.std.proofs.Common.{◌≤◌, length}
use Rattle.daylist.proofs.read_full.Given as goal

abbrev pub invariant-loop : goal.invariant-loop
invariant-loop l = l.n ≤ length l.room
