-- `daylist::room_for_text` meets its contract.
use Prim.Native.Nat.{ℕ}
use mathlib.Core.Path.{sym}
use lib.ListN.{length-replicate}
use Rattle.daylist.proofs.room_for_text.Goals as goal

pub returns : goal.returns
returns c = sym (length-replicate {A = ℕ} 1_441_792 0)
