-- The law of the questions: a link that passes shows it at the first look, by its latitude or by its first prefix. It stands here because
-- each question gives it.
use Rattle.std.specs.Prelude.{◌≡◌, Bool, true, false, ◌&&◌}
use Rattle.area.specs.declared.Area.{Area}
use Rattle.area.proofs.Laws.Normal.{normal-latitude}
use Rattle.prefix.specs.declared.Prefix.{Prefix}
use Rattle.prefixes.proofs.Laws.Listed.{may_meet_lem}
use Rattle.links.specs.declared.Slot.{Slot}
use Rattle.links.specs.Slots.{with}
use Rattle.search.specs.Search.{on_ground, on_latitude, overlapping, may_overlap}

pub both_still : (b c d : Bool) → (c ≡ true → d ≡ true) → (b && c) ≡ true → (b && d) ≡ true
both_still true c d weaker e = weaker e
both_still false c d weaker e = e

pub ground_looked : (n : Area) (x : Slot) → with (on_ground n) x ≡ true → with (on_latitude n) x ≡ true
ground_looked n x = both_still x.enabled (on_ground n x.settings) (on_latitude n x.settings) (normal-latitude x.settings.area n)

pub overlap_looked : (p : Prefix) (x : Slot) → with (overlapping p) x ≡ true → with (may_overlap p) x ≡ true
overlap_looked p x = both_still x.enabled (overlapping p x.settings) (may_overlap p x.settings) (may_meet_lem x.settings.prefixes p)
