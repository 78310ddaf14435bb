-- Demands 1 and 2 of the mission, for the calls that alter the table.
use Rattle.area.specs.declared.Area.{Area}
use Rattle.std.specs.Prelude.{ℕ, ◌+◌, ◌-◌, ◌≤◌, ◌<◌, ◌≡◌, ◌≢◌, true, List, length, get_or, drop, None, Option, Some}
use Rattle.replies.specs.Rules.{Rule, Exact}
use Rattle.prefix.specs.Prefix.{no_prefix}
use Rattle.prefixes.specs.declared.Prefixes.{Prefixes}
use Rattle.prefixes.specs.Prefixes.{place, listed}
use Rattle.links.specs.declared.Head.{Head}
use Rattle.links.specs.declared.LinkIndex.{LinkIndex}
use Rattle.links.specs.Replies.{Reply}
use Rattle.links.specs.declared.Settings.{Settings}
use Rattle.links.specs.declared.Slot.{Slot}
use Rattle.links.specs.declared.StartValues.{StartValues}
use Rattle.links.specs.declared.Table.{Table}
use Rattle.links.specs.Settings.{stored}
use Rattle.links.specs.Slots.{free, in_use, counted}
use Rattle.links.specs.Calls.{TableCall, enable, disable, set_area, set_own, rules, reply, start_values, start}
use Rattle.links.specs.Reached.{Reached}
use Rattle.links.specs.Run.{over, rules_over, reply_over, start_rules_over, start_over}

-- Demand 1: bad input gets its number in the order of these rules, and a refusal changes nothing
pub record Refuses (rs : List Rule) (t : Table) (r : Reply) : Type 0 where
  pub exact : Exact rs r.number
  pub unchanged : r.number ≢ 0 → (r.table ≡ t) × (r.link ≡ None)

-- the table of these values without a stop link, in some memory: the slots that count are free, and those past them as they were
pub record WithoutStops (memory : List Slot) (v : StartValues) (t : Table) : Type 0 where
  pub own : t.own ≡ v.own
  pub max : t.max ≡ v.max
  pub tvl : t.tvl ≡ v.tvl
  pub dgvl : t.dgvl ≡ v.dgvl
  pub area : t.area ≡ None
  pub no_stop : (j : ℕ) → get_or (counted t) j free ≡ free
  pub size : length t.slots ≡ length memory
  pub rest : drop (t.max - 1) t.slots ≡ drop (t.max - 1) memory

-- of a start: a refused one gives no link, and the table for own MID 0, maximum 2, fixed links of kind 1 and flag 1
pub record RefusesStart (most : ℕ) (memory : List Slot) (v : StartValues) : Type 0 where
  pub exact : Exact (start_values most v) (start most memory v).number
  pub no_link : (start most memory v).number ≢ 0 → (start most memory v).link ≡ None
  pub plain_table : (start most memory v).number ≢ 0
      → WithoutStops memory (record { own = 0; max = 2; tvl = record { kind = 1; flag = 1 }; dgvl = record { kind = 1; flag = 1 } }) (start most memory v).table

-- run-start: a refused start over a run changes nothing and gives no table
pub record RefusesStartOver (run : List Slot) (v : StartValues) : Type 0 where
  pub exact : Exact (start_rules_over run v) (start_over run v).number
  pub unchanged : (start_over run v).number ≢ 0 → ((start_over run v).head ≡ None) × ((start_over run v).run ≡ run)

-- of both layouts: of a table by value, and of one over a run, with 23 in its place
unfoldable pub TableDemand1 : Type 0
TableDemand1 =
    ((t : Table) (c : TableCall) → Refuses (rules (counted t) c) t (reply t c))
    × ((t : Table) (c : TableCall) → Refuses (rules_over t c) t (reply_over t c))
    × ((most : ℕ) (memory : List Slot) (v : StartValues) → RefusesStart most memory v)
    × ((run : List Slot) (v : StartValues) → RefusesStartOver run v)

-- Demand 2: the table that a call leaves is the definition's. What a reader would ask of the definition, field by field,
-- with slot k as the record of index k + 2:

-- a start that answers 0 gives the table of its values, with no stop link
pub record Starts (most : ℕ) (memory : List Slot) (v : StartValues) : Type 0 where
  pub no_link : (start most memory v).link ≡ None
  pub table : WithoutStops memory v (start most memory v).table

-- run-start: so does a start over a run, which gives its head
pub record StartsOver (run : List Slot) (v : StartValues) (h : Head) : Type 0 where
  pub head : (start_over run v).head ≡ Some h
  pub table : WithoutStops run v (over h (start_over run v).run)

-- the two tables differ in slot k alone
pub record DifferAt (k : ℕ) (t u : Table) : Type 0 where
  pub own : t.own ≡ u.own
  pub max : t.max ≡ u.max
  pub tvl : t.tvl ≡ u.tvl
  pub dgvl : t.dgvl ≡ u.dgvl
  pub area : t.area ≡ u.area
  pub others : (j : ℕ) → j ≢ k → get_or (counted t) j free ≡ get_or (counted u) j free
  pub size : length t.slots ≡ length u.slots
  pub rest : drop (t.max - 1) t.slots ≡ drop (t.max - 1) u.slots

-- prefix-kept: the same prefixes in the order given, and nothing past the count
pub record Keeps (given there : Prefixes) : Type 0 where
  pub listed : listed there ≡ listed given
  pub blank : (k : ℕ) → there.count ≤ k → place there k ≡ no_prefix

-- an enable that answers 0 adds exactly its link, at the lowest unused index
pub record Adds (t : Table) (s : Settings) (k : ℕ) : Type 0 where
  pub link : (reply t (enable s)).link ≡ Some (record { 0 = k + 2 })
  pub within : k + 2 ≤ t.max
  pub lower : (j : ℕ) → j < k → (get_or (counted t) j free).enabled ≡ true
  pub unused : get_or (counted t) k free ≡ free
  pub there : get_or (counted (reply t (enable s)).table) k free ≡ in_use (stored s)
  pub keeps : Keeps s.prefixes (stored s).prefixes
  pub alone : DifferAt k t (reply t (enable s)).table

-- a disable that answers 0 removes exactly its link
pub record Removes (t : Table) (i : LinkIndex) : Type 0 where
  pub stop : 2 ≤ i.0
  pub no_link : (reply t (disable i)).link ≡ None
  pub was : (get_or (counted t) (i.0 - 2) free).enabled ≡ true
  pub gone : get_or (counted (reply t (disable i)).table) (i.0 - 2) free ≡ free
  pub alone : DifferAt (i.0 - 2) t (reply t (disable i)).table

-- a call that leaves the table with this own MID and this area, and else as it was
pub record Sets (t : Table) (c : TableCall) (mid : ℕ) (a : Option Area) : Type 0 where
  pub no_link : (reply t c).link ≡ None
  pub own : (reply t c).table.own ≡ mid
  pub max : (reply t c).table.max ≡ t.max
  pub tvl : (reply t c).table.tvl ≡ t.tvl
  pub dgvl : (reply t c).table.dgvl ≡ t.dgvl
  pub area : (reply t c).table.area ≡ a
  pub slots : (reply t c).table.slots ≡ t.slots

-- a reached table over a run answers as every table does, so that what follows holds of both layouts
unfoldable pub TableDemand2 : Type 0
TableDemand2 =
    ((most : ℕ) (memory : List Slot) (v : StartValues) → (start most memory v).number ≡ 0 → Starts most memory v)
    × ((run : List Slot) (v : StartValues) → (start_over run v).number ≡ 0 → (h : Head) × StartsOver run v h)
    × ((most : ℕ) (memory : List Slot) (t : Table) → Reached most memory t → (c : TableCall) → reply_over t c ≡ reply t c)
    × ((most : ℕ) (memory : List Slot) (t : Table) → Reached most memory t →
    ((s : Settings) → (reply t (enable s)).number ≡ 0 → (k : ℕ) × Adds t s k)
    × ((i : LinkIndex) → (reply t (disable i)).number ≡ 0 → Removes t i)
    × ((a : Option Area) → (reply t (set_area a)).number ≡ 0 → Sets t (set_area a) t.own a)
    × ((m : ℕ) → (reply t (set_own m)).number ≡ 0 → Sets t (set_own m) m t.area))
