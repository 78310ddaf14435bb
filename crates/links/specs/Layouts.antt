-- RULES, A table over a run: which tables over a run calls reach, what a call touches of the run, and that both layouts answer alike.
use Rattle.std.specs.Prelude.{ℕ, ◌+◌, ◌≤◌, ◌≡◌, ◌≢◌, ◌↔◌, false, List, [], ◌∷◌, length, get_or, Some}
use Rattle.links.specs.declared.Head.{Head}
use Rattle.links.specs.Replies.{Reply}
use Rattle.links.specs.declared.Slot.{Slot}
use Rattle.links.specs.declared.StartValues.{StartValues}
use Rattle.links.specs.declared.Table.{Table}
use Rattle.links.specs.Slots.{free, counted}
use Rattle.links.specs.Calls.{TableCall, enable, disable, set_area, set_own, reply, start_by_value}
use Rattle.links.specs.Reached.{Reached}
use Rattle.links.specs.Run.{over, too_short, reply_over, start_over}

-- run-reached: its start answered 0, and each later call was given the head and the whole run as the last one left them
pub data ReachedOver (first : List Slot) : Head → List Slot → Type 0 where
  started_over : (v : StartValues) (h : Head) → (start_over first v).number ≡ 0 → (start_over first v).head ≡ Some h → ReachedOver first h (start_over first v).run
  called_over : {h : Head} {run : List Slot} → ReachedOver first h run → (c : TableCall) (next : Head) (left : List Slot)
      → (reply_over (over h run) c).table ≡ over next left → ReachedOver first next left

-- that is: reached in the memory of the run, with maxima up to 4,093
unfoldable pub ReachedInRun : Type 0
ReachedInRun = (first : List Slot) (h : Head) (run : List Slot) → ReachedOver first h run ↔ Reached 4093 first (over h run)

-- run-touches: the record of the link that an enable gives, and of the index that a disable names; record j is that of index j + 2
abbrev pub Own : Table → TableCall → ℕ → Type 0
Own t (enable s) j = (reply_over t (enable s)).link ≡ Some (record { 0 = j + 2 })
Own t (disable i) j = i.0 ≡ j + 2
Own t (set_area a) j = ⊥
Own t (set_own m) j = ⊥

pub record Touches (t : Table) (c : TableCall) : Type 0 where
  pub size : length (reply_over t c).table.slots ≡ length t.slots
  pub others : (j : ℕ) → (Own t c j → ⊥) → get_or (reply_over t c).table.slots j free ≡ get_or t.slots j free
  pub refused : (reply_over t c).number ≢ 0 → (reply_over t c).table.slots ≡ t.slots

unfoldable pub TouchesOwn : Type 0
TouchesOwn = (t : Table) (c : TableCall) → Touches t c

-- run-alike: the same head, the same records up to the maximum, and neither memory is too short; what lies behind these is no matter
pub record Alike (t u : Table) : Type 0 where
  pub own : t.own ≡ u.own
  pub max : t.max ≡ u.max
  pub tvl : t.tvl ≡ u.tvl
  pub dgvl : t.dgvl ≡ u.dgvl
  pub area : t.area ≡ u.area
  pub records : counted t ≡ counted u
  pub first : too_short t.max t.slots ≡ false
  pub second : too_short u.max u.slots ≡ false

-- two answers that differ in nothing, and leave tables that differ in nothing
pub record AnswersAlike (a b : Reply) : Type 0 where
  pub number : a.number ≡ b.number
  pub link : a.link ≡ b.link
  pub table : Alike a.table b.table

-- a start, where both take the maximum
pub record StartsAlike (run : List Slot) (v : StartValues) : Type 0 where
  pub number : (start_by_value v).number ≡ (start_over run v).number
  pub table : (start_by_value v).number ≡ 0 → (h : Head) × ((start_over run v).head ≡ Some h) × Alike (start_by_value v).table (over h (start_over run v).run)

-- one call after the other
abbrev pub answers : Table → List TableCall → List Reply
answers t [] = []
answers t (c ∷ cs) = reply t c ∷ answers (reply t c).table cs

abbrev pub answers_over : Table → List TableCall → List Reply
answers_over t [] = []
answers_over t (c ∷ cs) = reply_over t c ∷ answers_over (reply_over t c).table cs

pub data AllAlike : List Reply → List Reply → Type 0 where
  none : AllAlike [] []
  next : {a b : Reply} {firsts seconds : List Reply} → AnswersAlike a b → AllAlike firsts seconds → AllAlike (a ∷ firsts) (b ∷ seconds)

-- call by call, and so for every sequence of calls
pub record LayoutsAlike : Type 0 where
  pub starts : (run : List Slot) (v : StartValues) → v.max ≤ 65 → too_short v.max run ≡ false → StartsAlike run v
  pub calls : (t u : Table) → Alike t u → (c : TableCall) → AnswersAlike (reply t c) (reply_over u c)
  pub sequences : (t u : Table) → Alike t u → (cs : List TableCall) → AllAlike (answers t cs) (answers_over u cs)
