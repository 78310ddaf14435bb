-- `daylist::limit` meets its contract.
use Rattle.daylist.specs.Listing.{most_bytes}
use Rattle.daylist.proofs.limit.Goals as goal

pub returns-then-dispatched : goal.returns-then-dispatched
unfolding most_bytes
returns-then-dispatched c = rw c.if-dispatched.true

pub returns-else-dispatched : goal.returns-else-dispatched
unfolding most_bytes
returns-else-dispatched c = rw c.if-dispatched.false
