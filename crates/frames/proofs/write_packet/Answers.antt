-- `frames::write_packet` meets its contract.
use mathlib.Core.Path.{refl}
use borrow.Author.Tests.{lt-ltb, le-ltb}
use Rattle.frames.specs.Frame.{put, put_length}
use Rattle.frames.proofs.write_packet.Goals as goal

pub returns-then-out-packet : goal.returns-then-out-packet
unfolding put put_length
returns-then-out-packet c = rw (lt-ltb _ _ c.if-out-packet.true) (refl, refl)

pub returns : goal.returns
unfolding put put_length
returns c = rw (le-ltb _ _ c.if-out-packet.false) (refl, c.put_packet.ensures)
