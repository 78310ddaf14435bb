-- What a call answers, by the number that its rules give.
use Rattle.std.specs.Prelude.{None}
use Prim.Native.Nat.{ℕ, zero, suc, ◌<◌}
use native.Mathlib.Omega.{arith}
use mathlib.Core.Path.{◌≡◌, refl, sym, ap}
use mathlib.Core.Logic.{◌≢◌}
use mathlib.Core.List.{List}
use lib.Dec.{lit<}
use Rattle.replies.specs.Rules.{refusal}
use Rattle.replies.proofs.Laws.Refusals.{Numbered, numbered_append}
use Rattle.links.specs.declared.Settings.{Settings}
use Rattle.links.specs.declared.Slot.{Slot}
use Rattle.links.specs.declared.StartValues.{StartValues}
use Rattle.links.specs.declared.Table.{Table}
use Rattle.links.specs.Settings.{settings_values, ground_rules, settings_rules}
use Rattle.links.specs.Slots.{counted}
use Rattle.links.specs.Calls.{TableCall, enable, disable, set_area, set_own, slot_rules, rules, link_after, table_after, answer, reply, start_values, plain_start, fresh, begin, start}

pub refused : (t : Table) (c : TableCall) (n : ℕ) → 0 < n → refusal (rules (counted t) c) ≡ n → reply t c ≡ record { number = n; link = None; table = t }
unfolding reply
refused t c zero h e = absurd (omega arith)
refused t c (suc n) h e = ap (λ (m : ℕ). answer m t c) e

pub done : (t : Table) (c : TableCall) → refusal (rules (counted t) c) ≡ 0 → reply t c ≡ record { number = 0; link = link_after (counted t) c; table = table_after t c }
unfolding reply
done t c e = ap (λ (m : ℕ). answer m t c) e

pub values_numbered : (s : Settings) → Numbered (settings_values s)
unfolding settings_values
values_numbered s = (lit< tt, (lit< tt, tt))

ground_numbered : (s : Settings) → Numbered (ground_rules s)
unfolding ground_rules
ground_numbered s = (lit< tt, (lit< tt, (lit< tt, tt)))

pub settings_numbered : (s : Settings) → Numbered (settings_rules s)
unfolding settings_rules
settings_numbered s = numbered_append (settings_values s) (ground_rules s) (values_numbered s) (ground_numbered s)

slots_numbered : (l : List Slot) (s : Settings) → Numbered (slot_rules l s)
unfolding slot_rules
slots_numbered l s = (lit< tt, (lit< tt, (lit< tt, tt)))

pub numbered : (l : List Slot) (c : TableCall) → Numbered (rules l c)
unfolding rules
numbered l (enable s) = numbered_append (settings_rules s) (slot_rules l s) (settings_numbered s) (slots_numbered l s)
numbered l (disable i) = (lit< tt, (lit< tt, tt))
numbered l (set_area a) = (lit< tt, tt)
numbered l (set_own m) = (lit< tt, tt)

pub start_numbered : (most : ℕ) (v : StartValues) → Numbered (start_values most v)
unfolding start_values
start_numbered most v = (lit< tt, (lit< tt, tt))

pub start-refused : (most : ℕ) (memory : List Slot) (v : StartValues) (n : ℕ) → n ≡ refusal (start_values most v) → n ≢ 0
    → start most memory v ≡ record { number = n; link = None; table = fresh memory plain_start }
unfolding start
start-refused most memory v zero e h = absurd (h refl)
start-refused most memory v (suc n) e h = ap (λ (m : ℕ). begin m memory v) (sym e)

pub start-done : (most : ℕ) (memory : List Slot) (v : StartValues) → refusal (start_values most v) ≡ 0
    → start most memory v ≡ record { number = 0; link = None; table = fresh memory v }
unfolding start
start-done most memory v e = ap (λ (m : ℕ). begin m memory v) e
