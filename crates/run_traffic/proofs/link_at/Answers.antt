-- `run_traffic::link_at` meets its contract.
use mathlib.Core.Path.{◌∙◌, ap}
use Rattle.links.specs.declared.Slot.{Slot}
use Rattle.links.specs.Index.{enabled_at, interface_at, area_at, named_from}
use Rattle.run_traffic.proofs.link_at.Goals as goal

pub returns : goal.returns
unfolding enabled_at interface_at area_at
returns c =
    let h = c.args.head in
    c.link_from.ensures ∙ ap (λ (x : Slot). named_from h.tvl h.dgvl h.area c.args.index x) c.slot_at-slot.ensures
