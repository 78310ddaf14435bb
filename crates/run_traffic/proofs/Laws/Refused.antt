-- What a call over a run answers, by what refuses it before the rest is asked.
use Rattle.std.specs.Prelude.{ℕ, zero, suc, ◌<◌, ◌≡◌, List, [], ◌++◌, length, replicate, refl}
use mathlib.Core.List.{append_assoc}
use native.Mathlib.Omega.{arith}
use mathlib.Core.Path.{sym, ◌∙◌, ap}
use lib.Dec.{lit<}
use Rattle.replies.specs.declared.Refusal.{Refusal}
use Rattle.replies.specs.Numbers.{number_of}
use Rattle.replies.specs.Rules.{Rule, ◌if◌, ◌then◌, refusal}
use Rattle.replies.proofs.Laws.Refusals.{numbered_append}
use Rattle.replies.proofs.Laws.Numbers.{number_positive, first_refuses, next_decides}
use Rattle.links.specs.declared.LinkIndex.{LinkIndex}
use Rattle.links.specs.declared.Table.{Table}
use Rattle.links.specs.Slots.{counted}
use Rattle.links.specs.Index.{enabled_at, named}
use Rattle.links.specs.Run.{too_short}
use Rattle.traffic.specs.Arrives.{Indication, Received, indication_values, content_rules, room_rules, choose, chosen_for, deliver, refuse, unless, deliver_on}
use Rattle.traffic.specs.Leaves.{Request, request_values, link_rules, not_sent, sending, send_on, interface_rules, answer_interface, interface_on}
use Rattle.traffic.specs.Run.{choice_rules_over, indication_rules_over, receive_over, request_rules_over, send_over, interface_rules_over, interface_over}
use Rattle.traffic.proofs.Laws.Receive.{values_numbered, content_numbered}
use Rattle.traffic.proofs.Laws.Send as Sent

unless-refused : (e : Refusal) (x : Indication) (buffer : List ℕ) (r : Received) (n : ℕ) → n ≡ number_of e → unless n x buffer r ≡ refuse (number_of e) x buffer
unless-refused e x buffer r zero z = absurd (let more = number_positive e in omega arith)
unless-refused e x buffer r (suc n) z = ap (λ (m : ℕ). refuse m x buffer) z

module _ (t : Table) (x : Indication) (buffer : List ℕ) where
  pub received-refused : (e : Refusal) → number_of e ≡ refusal (choice_rules_over t x) → receive_over t x buffer ≡ refuse (number_of e) x buffer
  unfolding receive_over indication_rules_over
  received-refused e n =
      let room = room_rules x (length buffer) in
      unless-refused e x buffer _ _ (sym (first_refuses (choice_rules_over t x) room e n))

  pub received_on : 0 ≡ refusal (choice_rules_over t x) → receive_over t x buffer ≡ deliver_on (chosen_for t x) x buffer
  unfolding receive_over deliver_on indication_rules_over choice_rules_over
  received_on n =
      let room = room_rules x (length buffer) in
      let short = too_short t.max t.slots in
      let numbered = numbered_append (indication_values x) (23 if short then content_rules x) (values_numbered x) (lit< tt, content_numbered x) in
      ap (λ (m : ℕ). unless m x buffer (deliver t x buffer (choose (counted t) x)))
      (sym (next_decides (choice_rules_over t x) room (refusal room) numbered n refl))

module _ (t : Table) (q : Request) where
  abbrev before : List Rule
  before = request_values q ++ (23 if too_short t.max t.slots then [])

  whole : refusal (before ++ link_rules (named t q.index) q) ≡ refusal (request_rules_over t q)
  unfolding request_rules_over
  whole = ap refusal (append_assoc (request_values q) (23 if too_short t.max t.slots then []) (link_rules (named t q.index) q))

  pub sent-refused : (e : Refusal) → number_of e ≡ refusal before → send_over t q ≡ not_sent (number_of e) q.packet
  unfolding send_over
  sent-refused e n =
      Sent.sending-refused (named t q.index) q (refusal (request_rules_over t q)) (number_of e) (number_positive e)
      (sym (first_refuses before (link_rules (named t q.index) q) e n ∙ whole))

  pub sent_on : 0 ≡ refusal before → send_over t q ≡ send_on (named t q.index) q
  unfolding send_over send_on
  sent_on n =
      let l = named t q.index in
      let numbered = numbered_append (request_values q) (23 if too_short t.max t.slots then []) (Sent.values_numbered q) (lit< tt, tt) in
      ap (λ (m : ℕ). sending m l q) (sym (next_decides before (link_rules l q) (refusal (link_rules l q)) numbered n refl ∙ whole))

no_address : (own n : ℕ) → 0 < n → answer_interface n own ≡ record { number = n; mid = 0; address = replicate 16 0 }
no_address own zero more = absurd (omega arith)
no_address own (suc n) more = refl

module _ (t : Table) (i : LinkIndex) where
  pub address-refused : (e : Refusal) → number_of e ≡ refusal (23 if too_short t.max t.slots then []) → interface_over t i ≡ record { number = number_of e; mid = 0; address = replicate 16 0 }
  unfolding interface_over interface_rules_over
  address-refused e n =
      ap (λ (m : ℕ). answer_interface m t.own) (sym (first_refuses (23 if too_short t.max t.slots then []) (interface_rules (enabled_at (counted t) i)) e n))
      ∙ no_address t.own (number_of e) (number_positive e)

  pub address_on : 0 ≡ refusal (23 if too_short t.max t.slots then []) → interface_over t i ≡ interface_on (enabled_at (counted t) i) t.own
  unfolding interface_over interface_rules_over interface_on
  address_on n =
      let rest = interface_rules (enabled_at (counted t) i) in
      ap (λ (m : ℕ). answer_interface m t.own) (sym (next_decides (23 if too_short t.max t.slots then []) rest (refusal rest) (lit< tt, tt) n refl))
