-- The tables that calls can reach, and what holds of each.
use Rattle.std.specs.Prelude.{ℕ, ◌-◌, ◌^◌, ◌≤◌, ◌<◌, ◌≡◌, ◌≢◌, Bool, true, false, List, length, get_or, drop}
use Rattle.replies.specs.Rules.{refusal}
use Rattle.links.specs.declared.LinkIndex.{LinkIndex}
use Rattle.links.specs.declared.Settings.{Settings}
use Rattle.links.specs.declared.Slot.{Slot}
use Rattle.links.specs.declared.StartValues.{StartValues}
use Rattle.links.specs.declared.Table.{Table}
use Rattle.links.specs.Settings.{interface_ok, retired, settings_rules, same_ground, overlaps, overlaps_itself, stored}
use Rattle.links.specs.Slots.{Has, free, value_slots, counted, enabled_count}
use Rattle.links.specs.Index.{enabled_at, interface_at}
use Rattle.links.specs.Calls.{start_values, fresh, good_dynamic, TableCall, reply}

-- table-reached: in a memory of slots, with maxima up to `most`: a start that is not refused, then calls, refused or not
pub data Reached (most : ℕ) (memory : List Slot) : Table → Type 0 where
  started : (v : StartValues) → refusal (start_values most v) ≡ 0 → v.max - 1 ≤ length memory → Reached most memory (fresh memory v)
  called : {t : Table} → Reached most memory t → (c : TableCall) → Reached most memory (reply t c).table

-- a table by value
abbrev pub ByValue : Table → Type 0
ByValue t = Reached 65 value_slots t

-- two enabled slots that meet, in one sense or another, are one
abbrev pub Apart : (Settings → Settings → Bool) → List Slot → Type 0
Apart meet l = (j k : ℕ) (r s : Settings) → Has l j r → Has l k s → meet r s ≡ true → j ≡ k

pub record Sound (most : ℕ) (memory : List Slot) (t : Table) : Type 0 where
  pub own : t.own < 2 ^ 48
  pub least : 2 ≤ t.max
  pub largest : t.max ≤ most
  pub tvl : interface_ok t.tvl ≡ true
  pub dgvl : interface_ok t.dgvl ≡ true
  -- kind-retired, of the fixed links; of the stop links it follows from `good`
  pub tvl_kept : retired t.tvl ≡ false
  pub dgvl_kept : retired t.dgvl ≡ false
  pub area : good_dynamic t.area ≡ true
  -- link-apart: enabled links are good, with pairwise different areas and no overlapping prefixes, on two links or on one
  pub good : (k : ℕ) (s : Settings) → Has (counted t) k s → refusal (settings_rules s) ≡ 0
  pub areas : Apart same_ground (counted t)
  pub prefixes : Apart overlaps (counted t)
  pub within : (k : ℕ) (s : Settings) → Has (counted t) k s → overlaps_itself s ≡ false
  -- prefix-kept: past their counts nothing stands
  pub tidy : (k : ℕ) (s : Settings) → Has (counted t) k s → stored s ≡ s
  -- link-most: there is a slot for each index up to the maximum, so at most maximum - 1 links are enabled
  pub room : length (counted t) ≡ t.max - 1
  pub few : enabled_count (counted t) ≤ t.max - 1
  -- everything else is blank, and the memory past the slots that count is as it was
  pub blank : (k : ℕ) → (get_or (counted t) k free).enabled ≡ false → get_or (counted t) k free ≡ free
  pub rest : drop (t.max - 1) t.slots ≡ drop (t.max - 1) memory

-- kind-retired: no link of a reached table is of kind 2, fixed or stop
unfoldable pub NoneRetired : Type 0
NoneRetired = (most : ℕ) (memory : List Slot) (t : Table) → Reached most memory t → (i : LinkIndex) → enabled_at (counted t) i ≡ true → (interface_at t i).kind ≢ 2
