-- RULES, A table over a run: what arrives and what leaves, with 23 in its place: behind a call's values, and first where a call has
-- none. The rest is that of every table.
use Rattle.std.specs.Prelude.{ℕ, ◌≡◌, List, ◌++◌, length}
use Rattle.replies.specs.Rules.{Rule, ◌if◌, ◌then◌, refusal}
use Rattle.links.specs.declared.LinkIndex.{LinkIndex}
use Rattle.links.specs.declared.Table.{Table}
use Rattle.links.specs.Slots.{counted}
use Rattle.links.specs.Index.{enabled_at, named}
use Rattle.links.specs.Run.{too_short}
use Rattle.links.specs.Layouts.{Alike}
use Rattle.traffic.specs.Replies.{InterfaceAddress, Reception, Sending}
use Rattle.traffic.specs.Arrives.{Indication, Received, indication_values, content_rules, room_rules, choose, deliver, unless, receive}
use Rattle.traffic.specs.Leaves.{Request, request_values, link_rules, sending, send, interface_rules, answer_interface, interface}

unfoldable pub choice_rules_over : Table → Indication → List Rule
choice_rules_over t x = indication_values x ++ (23 if too_short t.max t.slots then content_rules x)

unfoldable pub indication_rules_over : Table → Indication → ℕ → List Rule
indication_rules_over t x room = choice_rules_over t x ++ room_rules x room

unfoldable pub receive_over : Table → Indication → List ℕ → Received
receive_over t x buffer = unless (refusal (indication_rules_over t x (length buffer))) x buffer (deliver t x buffer (choose (counted t) x))

-- what a call over a run promises of its reply r and of the buffer b that it leaves
abbrev pub PromisedOver : Table → Indication → List ℕ → Reception → List ℕ → Type 0
PromisedOver t x buffer r b = (r ≡ (receive_over t x buffer).reply) × (b ≡ (receive_over t x buffer).buffer)

unfoldable pub request_rules_over : Table → Request → List Rule
request_rules_over t q = request_values q ++ (23 if too_short t.max t.slots then link_rules (named t q.index) q)

unfoldable pub send_over : Table → Request → Sending
send_over t q = sending (refusal (request_rules_over t q)) (named t q.index) q

unfoldable pub interface_rules_over : Table → LinkIndex → List Rule
interface_rules_over t i = 23 if too_short t.max t.slots then interface_rules (enabled_at (counted t) i)

unfoldable pub interface_over : Table → LinkIndex → InterfaceAddress
interface_over t i = answer_interface (refusal (interface_rules_over t i)) t.own

-- run-alike: two tables that differ in nothing, one by value and one over a run, answer packets alike
pub record PacketsAlike (t u : Table) : Type 0 where
  pub indications : (x : Indication) (buffer : List ℕ) → receive t x buffer ≡ receive_over u x buffer
  pub requests : (q : Request) → send t q ≡ send_over u q
  pub addresses : (i : LinkIndex) → interface t i ≡ interface_over u i

unfoldable pub LayoutsCarryAlike : Type 0
LayoutsCarryAlike = (t u : Table) → Alike t u → PacketsAlike t u
