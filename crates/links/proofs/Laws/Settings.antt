-- What the invariant and the choice know of settings: a change of areas or of prefixes is paid for here.
use Prim.Native.Nat.{ℕ}
use mathlib.Core.Path.{◌≡◌, refl, sym, ◌∙◌, ap}
use mathlib.Core.Bool.{true}
use mathlib.Core.List.{List}
use Rattle.area.specs.declared.Area.{Area}
use Rattle.area.specs.Area.{same_area}
use Rattle.area.specs.Ground.{SameGround}
use Rattle.area.proofs.Laws.Ground.{same_ground_lem}
use Rattle.area.proofs.Laws.Same.{same_refl, same-sym, same-trans, same_test}
use Rattle.octets.proofs.Laws.Digits.{Below}
use Rattle.prefix.specs.Prefix.{of_address}
use Rattle.prefixes.specs.declared.Prefixes.{Prefixes}
use Rattle.prefixes.specs.Prefixes.{meets}
use Rattle.prefixes.proofs.Laws.Listed.{good-kept, overlapping-kept, within-kept, kept_twice}
use Rattle.prefixes.proofs.Laws.Sets.{set-refl, set-sym, set-trans, holds-alike, holds-one, holds_as_meets, overlapping-alike, overlapping-sym}
use Rattle.links.specs.declared.Settings.{Settings}
use Rattle.links.specs.Settings.{settings_values, ground_rules, settings_rules, same_ground, overlaps, overlaps_itself, reaches, stored, Same, EqualSettings}

pub ground_sym : (r s : Settings) → same_ground r s ≡ true → same_ground s r ≡ true
unfolding same_ground
ground_sym r s e = same-sym r.area s.area e

-- two links of one area have the same ground
pub ground_one : (r s : Settings) (a : Area) → same_area r.area a ≡ true → same_area s.area a ≡ true → same_ground r s ≡ true
unfolding same_ground
ground_one r s a e f = same-trans r.area a s.area e (same-sym s.area a f)

pub ground_alike : (r s : Settings) (a : Area) → Same r s → same_area r.area a ≡ same_area s.area a
ground_alike r s a same = same_test r.area s.area a same.area

-- equal settings are an equivalence
pub equal_refl : (s : Settings) → Same s s
equal_refl s = record { area = same_refl s.area; prefixes = set-refl s.prefixes; interface = refl }

pub equal_sym : (r s : Settings) → Same r s → Same s r
equal_sym r s e = record {
  area = same-sym r.area s.area e.area;
  prefixes = set-sym r.prefixes s.prefixes e.prefixes;
  interface = sym e.interface;
}

pub equal_trans : (r s t : Settings) → Same r s → Same s t → Same r t
equal_trans r s t e f = record {
  area = same-trans r.area s.area t.area e.area f.area;
  prefixes = set-trans r.prefixes s.prefixes t.prefixes e.prefixes f.prefixes;
  interface = e.interface ∙ f.interface;
}

pub equal_settings : EqualSettings
unfolding EqualSettings SameGround
equal_settings r s p q =
    let ground = same_ground_lem r.area s.area p q in
    (λ same. (ground.0 same.area, same.prefixes, same.interface), λ h. record { area = ground.1 h.0; prefixes = h.1; interface = h.2 })

pub overlaps-sym : (r s : Settings) → overlaps r s ≡ true → overlaps s r ≡ true
unfolding overlaps
overlaps-sym r s e = overlapping-sym r.prefixes s.prefixes e

pub overlaps-alike : (r s t u : Settings) → Same r s → Same t u → overlaps r t ≡ overlaps s u
unfolding overlaps
overlaps-alike r s t u e f = overlapping-alike r.prefixes s.prefixes t.prefixes u.prefixes e.prefixes f.prefixes

-- two links that reach one address overlap
pub reaches-one : (r s : Settings) (a : List ℕ) → reaches r a ≡ true → reaches s a ≡ true → overlaps r s ≡ true
unfolding overlaps reaches
reaches-one r s a e f = holds-one r.prefixes s.prefixes a e f

pub reaches-alike : (r s : Settings) (a : List ℕ) → Same r s → reaches r a ≡ reaches s a
unfolding reaches
reaches-alike r s a same = holds-alike r.prefixes s.prefixes a same.prefixes

-- who reaches an address has a prefix that overlaps the prefix of that address alone
pub reaches_as_overlap : (s : Settings) (a : List ℕ) → Below 256 a → reaches s a ≡ meets s.prefixes (of_address a)
unfolding reaches
reaches_as_overlap s a f = holds_as_meets s.prefixes a f

-- what the table keeps of settings is asked for no more and no less than they are
pub rules-stored : (s : Settings) → settings_rules (stored s) ≡ settings_rules s
unfolding settings_rules settings_values ground_rules stored
rules-stored s = rw (good-kept s.prefixes)

pub ground_stored : (r s : Settings) → same_ground r (stored s) ≡ same_ground r s
unfolding same_ground stored
ground_stored r s = refl

pub overlaps-stored : (r s : Settings) → overlaps r (stored s) ≡ overlaps r s
unfolding overlaps stored
overlaps-stored r s = overlapping-kept r.prefixes s.prefixes

pub itself_stored : (s : Settings) → overlaps_itself (stored s) ≡ overlaps_itself s
unfolding overlaps_itself stored
itself_stored s = within-kept s.prefixes

pub stored_twice : (s : Settings) → stored (stored s) ≡ stored s
unfolding stored
stored_twice s = ap (λ (p : Prefixes). record { area = s.area; interface = s.interface; prefixes = p }) (kept_twice s.prefixes)
