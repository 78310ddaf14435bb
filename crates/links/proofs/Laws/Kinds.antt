-- The kind of a link by the sort of its index, and the links that were found: one is whole where each of its parts is right, and
-- its parts are right where it is.
use Prim.Native.Nat.{ℕ, ◌+◌}
use native.Mathlib.Omega.{arith}
use mathlib.Core.Path.{◌≡◌, refl, ◌∙◌, ap}
use lib.ListN.{get_or}
use borrow.Author.Tests.{ne_eqb}
use Rattle.links.specs.declared.Chosen.{Chosen}
use Rattle.links.specs.declared.LinkIndex.{LinkIndex}
use Rattle.links.specs.declared.Slot.{Slot}
use Rattle.links.specs.declared.Table.{Table}
use Rattle.links.specs.Slots.{tvl_index, dgvl_index, index_at, free, counted}
use Rattle.links.specs.Index.{interface_at, chosen}
use Rattle.links.proofs.Laws.Counted.{stop-index, place_of-index, slot_of_stop}

pub topological_kind : (t : Table) → t.tvl.kind ≡ (interface_at t tvl_index).kind
unfolding interface_at
topological_kind t = refl

pub dynamic_kind : (t : Table) → t.dgvl.kind ≡ (interface_at t dgvl_index).kind
unfolding interface_at
dynamic_kind t = refl

-- that of a stop link is its slot's
pub stop_kind : (t : Table) (k : ℕ) → (interface_at t (index_at k)).kind ≡ (get_or (counted t) k free).settings.interface.kind
unfolding interface_at
stop_kind t k =
    rw (ne_eqb (k + 2) 0 (λ e. omega arith), ne_eqb (k + 2) 1 (λ e. omega arith))
    (ap (λ (x : Slot). x.settings.interface.kind) (slot_of_stop (counted t) (index_at k) (stop-index k) ∙ ap (λ (j : ℕ). get_or (counted t) j free) (place_of-index k)))

module _ (t : Table) where
  pub chosen_is : (r : Chosen) (i : LinkIndex) → r.index ≡ i → r.kind ≡ (interface_at t r.index).kind → r ≡ chosen t i
  chosen_is r i e f = rw (← e, ← f)

  pub chosen-index : (r : Chosen) (i : LinkIndex) → r ≡ chosen t i → r.index ≡ i
  chosen-index r i e = rw e

  pub chosen_kind : (r : Chosen) (i : LinkIndex) → r ≡ chosen t i → r.kind ≡ (interface_at t r.index).kind
  chosen_kind r i e = rw e
