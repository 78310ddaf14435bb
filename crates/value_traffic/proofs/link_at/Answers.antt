-- `value_traffic::link_at` meets its contract.
use borrow.Author.Tests.{lt-ltb}
use Rattle.links.specs.Index.{enabled_at, interface_at, area_at}
use Rattle.value_traffic.proofs.link_at.Goals as goal

pub returns-then-index : goal.returns-then-index
unfolding enabled_at interface_at area_at
returns-then-index c = rw (c.link_from.ensures, c.blank_slot.ensures, lt-ltb _ 2 c.if-index.true)
