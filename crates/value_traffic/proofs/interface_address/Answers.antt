-- `value_traffic::interface_address` meets its contract.
use mathlib.Core.Path.{◌∙◌, ap}
use Rattle.links.specs.declared.Named.{Named}
use Rattle.traffic.specs.Leaves.{interface_on, interface}
use Rattle.value_traffic.proofs.interface_address.Goals as goal

pub returns : goal.returns
unfolding interface
returns c = c.address_on.ensures ∙ ap (λ (l : Named). interface_on l.enabled c.args.t.own) c.link_at.ensures
