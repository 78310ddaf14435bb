-- What a search over slots looks for, by the question asked, and what it finds in a list of slots.
use Rattle.std.specs.Prelude.{ℕ, Bool, cond, List, Option, Some, None}
use Rattle.area.specs.declared.Area.{Area}
use Rattle.area.specs.Area.{eq_z, has_normal}
use Rattle.prefix.specs.declared.Prefix.{Prefix}
use Rattle.prefixes.specs.Prefixes.{meets, may_meet}
use Rattle.links.specs.declared.Settings.{Settings}
use Rattle.links.specs.declared.Slot.{Slot}
use Rattle.links.specs.Slots.{any, place}

-- a link on the ground that has this normal form; a link with a prefix that overlaps this one
abbrev pub on_ground : Area → Settings → Bool
on_ground normal s = has_normal s.area normal

abbrev pub overlapping : Prefix → Settings → Bool
overlapping p s = meets s.prefixes p

-- what a look at its first numbers tells of a link: its latitude, or its first prefix
abbrev pub on_latitude : Area → Settings → Bool
on_latitude normal s = eq_z s.area.latitude normal.latitude

abbrev pub may_overlap : Prefix → Settings → Bool
may_overlap p s = may_meet s.prefixes p

-- the place of the first slot that passes, if one does
abbrev pub found_in : List Slot → (Slot → Bool) → Option ℕ
found_in l q = cond (any q l) (Some (place q l)) None
