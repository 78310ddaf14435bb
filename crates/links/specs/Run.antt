-- RULES, A table over a run: a head by value and a lent run of link records, one per stop index. The calls on it are those on every
-- table, with one refusal more: 23, a run that is too short.
use Rattle.std.specs.Prelude.{ℕ, zero, suc, ◌-◌, ◌≡◌, Bool, not, List, [], ◌++◌, ltb, length, None, Option, Some, Result}
use Rattle.replies.specs.Rules.{Rule, ◌if◌, ◌then◌, refusal}
use Rattle.replies.specs.declared.Refusal.{Refusal}
use Rattle.replies.specs.Numbers.{reply_number}
use Rattle.links.specs.declared.Head.{Head}
use Rattle.links.specs.declared.HeadReply.{HeadReply}
use Rattle.links.specs.Replies.{Reply, link_given, head_given}
use Rattle.links.specs.declared.Slot.{Slot}
use Rattle.links.specs.declared.StartValues.{StartValues}
use Rattle.links.specs.declared.Table.{Table}
use Rattle.links.specs.Settings.{mid_ok, settings_values}
use Rattle.links.specs.Slots.{counted}
use Rattle.links.specs.Calls.{TableCall, enable, disable, set_area, set_own, rules, answer, start_values, cleared}

-- run-table: a head and a run are a table, whose slots are the records of the run
abbrev pub over : Head → List Slot → Table
over h run = record { own = h.own; max = h.max; tvl = h.tvl; dgvl = h.dgvl; area = h.area; slots = run }

abbrev pub head_of : Table → Head
head_of t = record { own = t.own; max = t.max; tvl = t.tvl; dgvl = t.dgvl; area = t.area }

-- run-short: fewer records than maximum - 1
abbrev pub too_short : ℕ → List Slot → Bool
too_short max run = ltb (length run) (max - 1)

-- a call's values, which alone refuse it before 23
abbrev pub values_of : TableCall → List Rule
values_of (enable s) = settings_values s
values_of (disable i) = []
values_of (set_area a) = []
values_of (set_own m) = 1 if not (mid_ok m) then []

-- run-refusals: what its values refuse, then 23, then the call's own list; its values, asked once more there, refuse nothing
unfoldable pub rules_over : Table → TableCall → List Rule
rules_over t c = values_of c ++ (23 if too_short t.max t.slots then rules (counted t) c)

unfoldable pub reply_over : Table → TableCall → Reply
reply_over t c = answer (refusal (rules_over t c)) t c

-- what a call promises of its reply and of the run that it leaves: together they are the definition's reply, table and all
abbrev pub Left : Reply → HeadReply → List Slot → Type 0
Left q r run = record { number = reply_number r.answer; link = link_given r.answer; table = over r.head run } ≡ q

-- A start over a run

unfoldable pub start_rules_over : List Slot → StartValues → List Rule
start_rules_over run v = start_values 4093 v ++ (23 if too_short v.max run then [])

abbrev pub fresh_head : StartValues → Head
fresh_head v = record { own = v.own; max = v.max; tvl = v.tvl; dgvl = v.dgvl; area = None }

pub record Started : Type 0 where
  pub number : ℕ
  pub head : Option Head
  pub run : List Slot

-- what a start promises, likewise
abbrev pub Begins : Started → Result Head Refusal → List Slot → Type 0
Begins q r run = record { number = reply_number r; head = head_given r; run = run } ≡ q

-- run-start: maximum - 1 records are cleared, and the rest stays; a refused start changes nothing and gives no table
abbrev pub begin_over : ℕ → List Slot → StartValues → Started
begin_over zero run v = record { number = 0; head = Some (fresh_head v); run = cleared (v.max - 1) run }
begin_over (suc n) run v = record { number = suc n; head = None; run = run }

unfoldable pub start_over : List Slot → StartValues → Started
start_over run v = begin_over (refusal (start_rules_over run v)) run v
