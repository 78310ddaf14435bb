-- What arrives and what leaves, over a run that is not too short: as on every table. And two tables that differ in nothing answer
-- alike, whatever their layout.
use Prim.Native.Nat.{ℕ}
use mathlib.Core.Path.{◌≡◌, refl, sym, ◌∙◌, ap}
use mathlib.Core.Bool.{Bool, false}
use mathlib.Core.List.{List, [], ◌++◌}
use lib.Dec.{lit<}
use lib.ListN.{length}
use Rattle.replies.specs.Rules.{◌if◌, ◌then◌, refusal}
use Rattle.replies.proofs.Laws.Refusals.{Numbered, numbered_append, passed_over}
use Rattle.links.specs.declared.Interface.{Interface}
use Rattle.links.specs.declared.LinkIndex.{LinkIndex}
use Rattle.links.specs.declared.Named.{Named}
use Rattle.links.specs.declared.Slot.{Slot}
use Rattle.links.specs.declared.Table.{Table}
use Rattle.links.specs.Index.{enabled_at, interface_at, area_at, named}
use Rattle.links.specs.Run.{too_short}
use Rattle.links.specs.Layouts.{Alike}
use Rattle.links.specs.Slots.{tvl_index, dgvl_index, counted}
use Rattle.traffic.specs.Arrives.{Indication, Received, Link, topological, dynamic, stop, indication_values, content_rules, choice_rules, room_rules, indication_rules, choose, frame_or_packet, deliver_as, deliver, unless, receive}
use Rattle.traffic.specs.Leaves.{Request, request_values, link_rules, request_rules, sending, send, interface_rules, answer_interface, interface_on, interface}
use Rattle.traffic.specs.Run.{choice_rules_over, indication_rules_over, receive_over, request_rules_over, send_over, interface_rules_over, interface_over, PacketsAlike, LayoutsCarryAlike}
use Rattle.traffic.specs.Demands.{AsEveryTable}
use Rattle.traffic.proofs.Laws.Receive.{values_numbered, content_numbered, room_numbered}
use Rattle.traffic.proofs.Laws.Send.{link_numbered, interface_numbered}
use Rattle.traffic.proofs.Laws.Send as Sent

module _ (t : Table) where
  abbrev short : Bool
  short = too_short t.max t.slots

  pub indication-over_numbered : (x : Indication) (room : ℕ) → Numbered (indication_rules_over t x room)
  unfolding indication_rules_over choice_rules_over
  indication-over_numbered x room =
      numbered_append (indication_values x ++ (23 if short then content_rules x)) (room_rules x room)
      (numbered_append (indication_values x) (23 if short then content_rules x) (values_numbered x) (lit< tt, content_numbered x))
      (room_numbered x room)

  pub request-over_numbered : (q : Request) → Numbered (request_rules_over t q)
  unfolding request_rules_over
  request-over_numbered q =
      numbered_append (request_values q) (23 if short then link_rules (named t q.index) q) (Sent.values_numbered q) (lit< tt, link_numbered (named t q.index) q)

  pub interface_over_numbered : (i : LinkIndex) → Numbered (interface_rules_over t i)
  unfolding interface_rules_over
  interface_over_numbered i = (lit< tt, interface_numbered (enabled_at (counted t) i))

  module _ (long : short ≡ false) where
    -- 23 does not hold, and is passed over
    pub indication_rules-alike : (x : Indication) (room : ℕ) → refusal (indication_rules_over t x room) ≡ refusal (indication_rules x room)
    unfolding indication_rules_over choice_rules_over indication_rules choice_rules indication_values
    indication_rules-alike x room = passed_over (indication_values x) (content_rules x ++ room_rules x room) 23 short long

    request_rules-alike : (q : Request) → refusal (request_rules_over t q) ≡ refusal (request_rules t q)
    unfolding request_rules_over request_rules
    request_rules-alike q = passed_over (request_values q) (link_rules (named t q.index) q) 23 short long

    pub received-alike : (x : Indication) (buffer : List ℕ) → receive_over t x buffer ≡ receive t x buffer
    unfolding receive_over receive
    received-alike x buffer = ap (λ (n : ℕ). unless n x buffer (deliver t x buffer (choose (counted t) x))) (indication_rules-alike x (length buffer))

    pub as_every_table : AsEveryTable t
    unfolding send_over send interface_over interface interface_on interface_rules_over
    as_every_table = record {
      indications = received-alike;
      requests = λ q. ap (λ (n : ℕ). sending n (named t q.index) q) (request_rules-alike q);
      addresses = λ i. ap (λ (n : ℕ). answer_interface n t.own) (passed_over [] (interface_rules (enabled_at (counted t) i)) 23 short long);
    }

-- what the lines and the rules see of a table is the same in both
module _ (t u : Table) (a : Alike t u) where
  named-alike : (i : LinkIndex) → named t i ≡ named u i
  unfolding enabled_at interface_at area_at
  named-alike i = rw (a.records, a.tvl, a.dgvl, a.area)

  delivered_alike : (x : Indication) (buffer : List ℕ) → deliver t x buffer (choose (counted t) x) ≡ deliver u x buffer (choose (counted u) x)
  delivered_alike x buffer = ap (λ (l : List Slot). deliver t x buffer (choose l x)) a.records ∙ by_kind (choose (counted u) x)
    where
      by_kind : (l : Link) → deliver t x buffer l ≡ deliver u x buffer l
      by_kind topological = ap (λ (f : Interface). deliver_as (frame_or_packet f.kind x) x buffer tvl_index) a.tvl
      by_kind dynamic = ap (λ (f : Interface). deliver_as (frame_or_packet f.kind x) x buffer dgvl_index) a.dgvl
      by_kind (stop k s) = refl

  packets_alike : PacketsAlike t u
  unfolding receive send request_rules interface
  packets_alike =
      let every = as_every_table u a.second in
      record {
        indications = λ x buffer. ap (λ (r : Received). unless (refusal (indication_rules x (length buffer))) x buffer r) (delivered_alike x buffer) ∙ sym (every.indications x buffer);
        requests = λ q. ap (λ (l : Named). sending (refusal (request_values q ++ link_rules l q)) l q) (named-alike q.index) ∙ sym (every.requests q);
        addresses = λ i. ap (λ (l : List Slot). interface_on (enabled_at l i) t.own) a.records ∙ ap (λ (own : ℕ). interface_on (enabled_at (counted u) i) own) a.own ∙ sym (every.addresses i);
      }

pub layouts_carry_alike : LayoutsCarryAlike
unfolding LayoutsCarryAlike
layouts_carry_alike = packets_alike
