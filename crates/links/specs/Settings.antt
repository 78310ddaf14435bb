-- RULES, Virtual links: settings, which are good, and what two stop links have to do with each other.
use Rattle.std.specs.Prelude.{ℕ, ◌^◌, ◌≡◌, ◌↔◌, Bool, true, not, ◌&&◌, List, [], ◌++◌, leb, ltb, eqb}
use Rattle.replies.specs.Rules.{Rule, ◌if◌, ◌then◌}
use Rattle.area.specs.Area.{good_area, same_area}
use Rattle.area.specs.Ground.{Good, Chain}
use Rattle.prefixes.specs.Prefixes.{too_many, good_prefixes, holds_any, overlapping, overlap_within, SameSet, kept}
use Rattle.links.specs.declared.Interface.{Interface}
use Rattle.links.specs.declared.Settings.{Settings}

-- mid-range: 48 bits
abbrev pub mid_ok : ℕ → Bool
mid_ok m = ltb m (2 ^ 48)

-- kind-list, flag-list: kinds 1 Ethernet LAN, 2 NBMA, 3 point-to-point; flag: 0 or 1
unfoldable pub interface_ok : Interface → Bool
interface_ok f = leb 1 f.kind && leb f.kind 3 && leb f.flag 1

-- kind-retired: kind 2 stands in the list, and no link can be started or enabled with it any more
abbrev pub retired : Interface → Bool
retired f = eqb f.kind 2

-- enable-refusals: those that the settings alone decide before the table is asked: their values, then area and prefixes
unfoldable pub settings_values : Settings → List Rule
settings_values s =
    1 if not (interface_ok s.interface)
    then 30 if retired s.interface
    then []

unfoldable pub ground_rules : Settings → List Rule
ground_rules s =
    2 if not (good_area s.area)
    then 29 if too_many s.prefixes
    then 3 if not (good_prefixes s.prefixes)
    then []

unfoldable pub settings_rules : Settings → List Rule
settings_rules s = settings_values s ++ ground_rules s

unfoldable pub same_ground : Settings → Settings → Bool
same_ground r s = same_area r.area s.area

-- link-apart: a prefix of one overlaps a prefix of the other; two prefixes of one overlap
unfoldable pub overlaps : Settings → Settings → Bool
overlaps r s = overlapping r.prefixes s.prefixes

unfoldable pub overlaps_itself : Settings → Bool
overlaps_itself s = overlap_within s.prefixes

-- one of the link's prefixes holds the address
unfoldable pub reaches : Settings → List ℕ → Bool
reaches s address = holds_any s.prefixes address

-- prefix-kept: as the table keeps them
unfoldable pub stored : Settings → Settings
stored s = record { area = s.area; interface = s.interface; prefixes = kept s.prefixes }

-- settings-equal
pub record Same (r s : Settings) : Type 0 where
  pub area : same_area r.area s.area ≡ true
  pub prefixes : SameSet r.prefixes s.prefixes
  pub interface : r.interface ≡ s.interface

-- and what it comes to: a chain of changes joins the areas, the sets of prefixes are the same, and so are kind and flag
unfoldable pub EqualSettings : Type 0
EqualSettings = (r s : Settings) → Good r.area → Good s.area → Same r s ↔ (Chain r.area s.area × SameSet r.prefixes s.prefixes × (r.interface ≡ s.interface))
