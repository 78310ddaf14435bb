-- The calls that alter the table: their refusals in the rules' order, and what they do where they are not refused.
use Rattle.area.specs.declared.Area.{Area}
use Rattle.std.specs.Prelude.{ℕ, zero, suc, ◌-◌, Bool, true, not, ◌&&◌, ◌||◌, List, [], ◌∷◌, ◌++◌, leb, set, None, Option, Some}
use Rattle.replies.specs.Rules.{Rule, ◌if◌, ◌then◌, refusal}
use Rattle.area.specs.Area.{good_area}
use Rattle.links.specs.declared.Interface.{Interface}
use Rattle.links.specs.declared.LinkIndex.{LinkIndex}
use Rattle.links.specs.Replies.{Reply}
use Rattle.links.specs.declared.Settings.{Settings}
use Rattle.links.specs.declared.Slot.{Slot}
use Rattle.links.specs.declared.StartValues.{StartValues}
use Rattle.links.specs.declared.Table.{Table}
use Rattle.links.specs.Settings.{mid_ok, interface_ok, retired, settings_rules, same_ground, overlaps, overlaps_itself, stored}
use Rattle.links.specs.Slots.{first_stop, is_fixed, index_at, place_of, free, value_slots, in_use, counted, slot_at, any, place, unused, with}

pub data TableCall : Type 0 where
  enable : Settings → TableCall
  disable : LinkIndex → TableCall
  set_area : Option Area → TableCall
  set_own : ℕ → TableCall

abbrev pub good_dynamic : Option Area → Bool
good_dynamic (Some a) = good_area a
good_dynamic None = true

-- enable-refusals: those that the enabled links decide, and 5 within the call
unfoldable pub slot_rules : List Slot → Settings → List Rule
slot_rules l s =
    4 if any (with (λ r. same_ground r s)) l
    then 5 if (any (with (λ r. overlaps r s)) l || overlaps_itself s)
    then 6 if not (any unused l)
    then []

-- the refusals of each call, in order; of the table they see the slots that count
unfoldable pub rules : List Slot → TableCall → List Rule
rules l (enable s) = settings_rules s ++ slot_rules l s
rules l (disable i) =
    15 if is_fixed i
    then 7 if not (slot_at l i).enabled
    then []
rules l (set_area a) = 2 if not (good_dynamic a) then []
rules l (set_own m) = 1 if not (mid_ok m) then []

-- the table with another slot k, area or own MID, and nothing else changed
abbrev pub with_slot : Table → ℕ → Slot → Table
with_slot t k x = record {
  own = t.own;
  max = t.max;
  tvl = t.tvl;
  dgvl = t.dgvl;
  area = t.area;
  slots = set t.slots k x;
}

abbrev pub with_area : Table → Option Area → Table
with_area t a = record {
  own = t.own;
  max = t.max;
  tvl = t.tvl;
  dgvl = t.dgvl;
  area = a;
  slots = t.slots;
}

abbrev pub with_own : Table → ℕ → Table
with_own t m = record {
  own = m;
  max = t.max;
  tvl = t.tvl;
  dgvl = t.dgvl;
  area = t.area;
  slots = t.slots;
}

-- link-lowest-index: an enable takes it; of the others none gives a link
unfoldable pub link_after : List Slot → TableCall → Option LinkIndex
link_after l (enable s) = Some (index_at (place unused l))
link_after l (disable i) = None
link_after l (set_area a) = None
link_after l (set_own m) = None

unfoldable pub table_after : Table → TableCall → Table
table_after t (enable s) = with_slot t (place unused (counted t)) (in_use (stored s))
table_after t (disable i) = with_slot t (place_of i) free
table_after t (set_area a) = with_area t a
table_after t (set_own m) = with_own t m

-- refusal-leaves: its number, no link, and nothing changed
abbrev pub answer : ℕ → Table → TableCall → Reply
answer zero t c = record { number = 0; link = link_after (counted t) c; table = table_after t c }
answer (suc n) t c = record { number = suc n; link = None; table = t }

unfoldable pub reply : Table → TableCall → Reply
reply t c = answer (refusal (rules (counted t) c)) t c

-- link-maximum: the least is the first stop's index, and `most` the largest
abbrev pub start_ok : ℕ → StartValues → Bool
start_ok most v =
    mid_ok v.own
    && leb first_stop.0 v.max
    && leb v.max most
    && interface_ok v.tvl
    && interface_ok v.dgvl

-- start-refusals: its values alone refuse a start
unfoldable pub start_values : ℕ → StartValues → List Rule
start_values most v =
    1 if not (start_ok most v)
    then 30 if (retired v.tvl || retired v.dgvl)
    then []

-- the first n slots of a memory are cleared, or as many as it has
unfoldable pub cleared : ℕ → List Slot → List Slot
cleared zero l = l
cleared (suc n) [] = []
cleared (suc n) (x ∷ l) = free ∷ cleared n l

-- the fresh table in some memory: the slots that count are cleared
unfoldable pub fresh : List Slot → StartValues → Table
fresh memory v = record {
  own = v.own;
  max = v.max;
  tvl = v.tvl;
  dgvl = v.dgvl;
  area = None;
  slots = cleared (v.max - 1) memory;
}

abbrev pub plain : Interface
plain = record { kind = 1; flag = 1 }

abbrev pub plain_start : StartValues
plain_start = record { own = 0; max = 2; tvl = plain; dgvl = plain }

-- start-refused: its number and the table for own MID 0, maximum 2, fixed links of kind 1 and flag 1
abbrev pub begin : ℕ → List Slot → StartValues → Reply
begin zero memory v = record { number = 0; link = None; table = fresh memory v }
begin (suc n) memory v = record { number = suc n; link = None; table = fresh memory plain_start }

-- start in some memory, with maxima up to `most`
unfoldable pub start : ℕ → List Slot → StartValues → Reply
start most memory v = begin (refusal (start_values most v)) memory v

-- by value the largest maximum is 65
abbrev pub start_by_value : StartValues → Reply
start_by_value v = start 65 value_slots v
