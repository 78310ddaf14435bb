-- The indices of the links, and the run of slots: each stop index has one, and only the first maximum - 1 count.
use Rattle.std.specs.Prelude.{ℕ, zero, suc, ◌+◌, ◌-◌, ◌≡◌, Bool, true, false, cond, not, ◌&&◌, ◌||◌, List, [], ◌∷◌, ltb, pos, take, get_or, replicate}
use Rattle.prefixes.specs.Prefixes.{no_prefixes}
use Rattle.links.specs.declared.LinkIndex.{LinkIndex}
use Rattle.links.specs.declared.Settings.{Settings}
use Rattle.links.specs.declared.Slot.{Slot}
use Rattle.links.specs.declared.Table.{Table}

-- link-fixed, link-lowest-index: the index of the TVL, that of the DGVL, and the first that a stop link may have
abbrev pub tvl_index : LinkIndex
tvl_index = record { 0 = 0 }

abbrev pub dgvl_index : LinkIndex
dgvl_index = record { 0 = 1 }

abbrev pub first_stop : LinkIndex
first_stop = record { 0 = 2 }

abbrev pub is_fixed : LinkIndex → Bool
is_fixed i = ltb i.0 first_stop.0

-- the stop index whose record slot k is, and the place of the slot that is a stop index's record
abbrev pub index_at : ℕ → LinkIndex
index_at k = record { 0 = k + first_stop.0 }

abbrev pub place_of : LinkIndex → ℕ
place_of i = i.0 - first_stop.0

abbrev pub blank : Settings
blank = record {
  area = record { shape = 0; latitude = pos 0; longitude = pos 0; a = 0; b = 0; angle = 0 };
  prefixes = no_prefixes;
  interface = record { kind = 0; flag = 0 };
}

-- link-give-back: a disabled slot is blank
abbrev pub free : Slot
free = record { enabled = false; settings = blank }

-- the memory of a table by value
abbrev pub value_slots : List Slot
value_slots = replicate 64 free

abbrev pub in_use : Settings → Slot
in_use s = record { enabled = true; settings = s }

-- the slots of the stop indices up to the maximum
abbrev pub counted : Table → List Slot
counted t = take (t.max - 1) t.slots

-- the slot of an index; a fixed link and an index that does not count have none
abbrev pub slot_at : List Slot → LinkIndex → Slot
slot_at l i = cond (is_fixed i) free (get_or l (place_of i) free)

-- is there a slot that passes the test?
unfoldable pub any : (Slot → Bool) → List Slot → Bool
any q [] = false
any q (x ∷ l) = q x || any q l

-- the place of the first slot that passes the test; the length where there is none
unfoldable pub place : (Slot → Bool) → List Slot → ℕ
place q [] = zero
place q (x ∷ l) = cond (q x) zero (suc (place q l))

-- tests of a slot: it is unused; it is enabled and its settings pass
abbrev pub unused : Slot → Bool
unused x = not x.enabled

abbrev pub with : (Settings → Bool) → Slot → Bool
with q x = x.enabled && q x.settings

-- slot k is enabled with these settings
abbrev pub Has : List Slot → ℕ → Settings → Type 0
Has l k s = get_or l k free ≡ in_use s

unfoldable pub enabled_count : List Slot → ℕ
enabled_count [] = 0
enabled_count (x ∷ l) = cond x.enabled (suc (enabled_count l)) (enabled_count l)
