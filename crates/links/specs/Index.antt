-- The link that an index names: whether it is enabled, its interface, and its area.
use Rattle.area.specs.declared.Area.{Area}
use Rattle.std.specs.Prelude.{Bool, cond, ◌||◌, List, eqb, None, Option, Some}
use Rattle.links.specs.declared.Chosen.{Chosen}
use Rattle.links.specs.declared.Interface.{Interface}
use Rattle.links.specs.declared.LinkIndex.{LinkIndex}
use Rattle.links.specs.declared.Named.{Named}
use Rattle.links.specs.declared.Slot.{Slot}
use Rattle.links.specs.declared.Table.{Table}
use Rattle.links.specs.Slots.{tvl_index, dgvl_index, is_fixed, counted, slot_at}

-- link-fixed: the fixed links always, a stop link while it is enabled
unfoldable pub enabled_at : List Slot → LinkIndex → Bool
enabled_at l i = is_fixed i || (slot_at l i).enabled

-- its interface
unfoldable pub interface_at : Table → LinkIndex → Interface
interface_at t i =
    cond (eqb i.0 tvl_index.0) t.tvl
    (cond (eqb i.0 dgvl_index.0) t.dgvl
    (slot_at (counted t) i).settings.interface)

-- its area: the topological link has none
unfoldable pub area_at : Table → LinkIndex → Option Area
area_at t i =
    cond (eqb i.0 tvl_index.0) None
    (cond (eqb i.0 dgvl_index.0) t.area
    (Some (slot_at (counted t) i).settings.area))

-- what a delivery asks of a link, and what a request asks of it
abbrev pub chosen : Table → LinkIndex → Chosen
chosen t i = record { index = i; kind = (interface_at t i).kind }

abbrev pub named : Table → LinkIndex → Named
named t i = record { enabled = enabled_at (counted t) i; interface = interface_at t i; area = area_at t i }

-- the same, by the fixed links, the area of the DGVL, and the link's slot
abbrev pub named_from : Interface → Interface → Option Area → LinkIndex → Slot → Named
named_from tvl dgvl area i x = record {
  enabled = is_fixed i || x.enabled;
  interface = cond (eqb i.0 tvl_index.0) tvl (cond (eqb i.0 dgvl_index.0) dgvl x.settings.interface);
  area = cond (eqb i.0 tvl_index.0) None (cond (eqb i.0 dgvl_index.0) area (Some x.settings.area));
}
