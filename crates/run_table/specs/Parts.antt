-- Parts of the calls: what the enabled links refuse an enable by, and the reply of a call that alters the head alone.
use Rattle.std.specs.Prelude.{List, [], ◌||◌, None, Result, Ok, Err}
use Rattle.replies.specs.Rules.{Rule, ◌if◌, ◌then◌}
use Rattle.replies.specs.declared.Refusal.{Refusal}
use Rattle.links.specs.declared.Head.{Head}
use Rattle.links.specs.declared.HeadReply.{HeadReply}
use Rattle.links.specs.declared.Settings.{Settings}
use Rattle.links.specs.declared.Slot.{Slot}
use Rattle.links.specs.Settings.{same_ground, overlaps, overlaps_itself}
use Rattle.links.specs.Slots.{any, with}

-- the area is in use, or prefixes overlap
unfoldable pub apart_rules : List Slot → Settings → List Rule
apart_rules l s =
    4 if any (with (λ r. same_ground r s)) l
    then 5 if (any (with (λ r. overlaps r s)) l || overlaps_itself s)
    then []

-- the reply: another head, or this one where the call is refused
abbrev pub changed : Head → Result Head Refusal → HeadReply
changed h (Ok new) = record { answer = Ok None; head = new }
changed h (Err refusal) = record { answer = Err refusal; head = h }
