-- A stop switched on: the table behind an enable is wider than the table before it.
use Prim.Native.Nat.{ℕ}
use mathlib.Core.Path.{◌≡◌, refl, sym, ◌∙◌, ap, subst}
use mathlib.Core.Logic.{◌≢◌}
use mathlib.Core.Bool.{Bool, true, false}
use mathlib.Core.List.{List}
use lib.Dec.{eqb}
use lib.ListN.{get_or}
use borrow.Author.Tests.{eqb-true, eqb-false}
use Rattle.octets.proofs.Laws.Tests.{clash}
use Rattle.links.specs.declared.Settings.{Settings}
use Rattle.links.specs.declared.Slot.{Slot}
use Rattle.links.specs.declared.Table.{Table}
use Rattle.links.specs.Slots.{Has, free, counted}
use Rattle.links.specs.Calls.{enable, reply}
use Rattle.links.specs.Reached.{Reached, called}
use Rattle.links.specs.Demands.{Adds, TableDemand2}
use Rattle.links.proofs.Laws.Settings.{equal_refl}
use Rattle.links.proofs.Laws.Demands.{refuses, table_demand_2}
use Rattle.traffic.specs.Demand3.{Wider, Demand3, SwitchedOn}
use Rattle.traffic.proofs.Laws.Demand3.{demand_3}

module _ (most : ℕ) (memory : List Slot) (t : Table) (r : Reached most memory t) (s : Settings) where
  abbrev after : Table
  after = (reply t (enable s)).table

  wide : t.tvl ≡ after.tvl → t.dgvl ≡ after.dgvl → ((k : ℕ) (x : Settings) → Has (counted t) k x → Has (counted after) k x) → Wider t after
  wide tvl dgvl stays = record {
    most₁ = most;
    memory₁ = memory;
    first = r;
    most₂ = most;
    memory₂ = memory;
    second = called r (enable s);
    tvl = tvl;
    dgvl = dgvl;
    stops = λ k x h. (k, x, stays k x h, equal_refl x);
  }

  refused : (reply t (enable s)).number ≢ 0 → Wider t after
  refused h =
      let same : after ≡ t = ((refuses t (enable s)).unchanged h).0 in
      wide (ap (λ (u : Table). u.tvl) (sym same)) (ap (λ (u : Table). u.dgvl) (sym same)) (λ k x has. subst (λ (u : Table). Has (counted u) k x) (sym same) has)

  -- a slot in use is not the one that was unused
  elsewhere : (k j : ℕ) (x : Settings) → get_or (counted t) k free ≡ free → Has (counted t) j x → j ≢ k
  elsewhere k j x unused has e =
      let on : (get_or (counted t) j free).enabled ≡ true = ap (λ (y : Slot). y.enabled) has in
      let off : (get_or (counted t) j free).enabled ≡ false = ap (λ (i : ℕ). (get_or (counted t) i free).enabled) e ∙ ap (λ (y : Slot). y.enabled) unused in
      clash on off

  done : (k : ℕ) → Adds t s k → Wider t after
  done k a = wide a.alone.tvl a.alone.dgvl (λ j x has. sym (a.alone.others j (elsewhere k j x a.unused has)) ∙ has)

  wider : Wider t after
  unfolding TableDemand2
  wider = go (eqb (reply t (enable s)).number 0) refl
    where
      go : (b : Bool) → eqb (reply t (enable s)).number 0 ≡ b → Wider t (reply t (enable s)).table
      go true e =
          let added = (table_demand_2.3 most memory t r).0 s (eqb-true (reply t (enable s)).number 0 e) in
          done added.0 added.1
      go false e = refused (eqb-false (reply t (enable s)).number 0 e)

pub switched_on : SwitchedOn
unfolding SwitchedOn Demand3
switched_on most memory t r s =
    let w = wider most memory t r s in
    (w, demand_3 t (reply t (enable s)).table w)
