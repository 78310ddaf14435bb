-- No link of a reached table is of a retired kind, neither a fixed one nor a stop.
use native.Mathlib.Omega.{arith}
use mathlib.Core.Path.{◌≡◌, refl}
use mathlib.Core.Logic.{◌≢◌}
use mathlib.Core.Bool.{Bool, true, false, cond}
use lib.Dec.{eqb}
use lib.ListN.{get_or}
use borrow.Author.Tests.{eqb-false, le-ltb}
use Rattle.replies.specs.Rules.{refusal}
use Rattle.replies.proofs.Laws.Refusals.{done-exactly, none_left}
use Rattle.links.specs.declared.Settings.{Settings}
use Rattle.links.specs.Settings.{retired, settings_values, ground_rules, settings_rules}
use Rattle.links.specs.Slots.{is_fixed, place_of, free, counted, slot_at}
use Rattle.links.specs.Index.{enabled_at, interface_at}
use Rattle.links.specs.Reached.{NoneRetired}
use Rattle.links.proofs.Laws.Replies.{settings_numbered}
use Rattle.links.proofs.Laws.Sound.{sound}

-- settings that nothing refuses are of no retired kind
kept : (s : Settings) → refusal (settings_rules s) ≡ 0 → retired s.interface ≡ false
unfolding settings_rules settings_values
kept s e = (none_left (settings_values s) (ground_rules s) ((done-exactly (settings_rules s) (settings_numbered s)).0 e)).1.0

pub none-retired : NoneRetired
unfolding NoneRetired enabled_at interface_at
none-retired most memory t r i on = go (eqb i.0 0) (eqb i.0 1) refl refl
  where
    go : (a b : Bool) → eqb i.0 0 ≡ a → eqb i.0 1 ≡ b → (cond a t.tvl (cond b t.dgvl (slot_at (counted t) i).settings.interface)).kind ≢ 2
    go true b p q = eqb-false t.tvl.kind 2 (sound r).tvl_kept
    go false true p q = eqb-false t.dgvl.kind 2 (sound r).dgvl_kept
    go false false p q =
        let stop : is_fixed i ≡ false = le-ltb i.0 2 (omega (arith, eqb-false i.0 0 p, eqb-false i.0 1 q)) in
        let slot = get_or (counted t) (place_of i) free in
        let enabled : slot.enabled ≡ true = rw stop at on in
        let good = (sound r).good (place_of i) slot.settings (λ j. record { enabled = enabled j; settings = slot.settings }) in
        rw stop (eqb-false slot.settings.interface.kind 2 (kept slot.settings good))
