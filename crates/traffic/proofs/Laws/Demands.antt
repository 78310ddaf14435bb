-- Demands 1 and 2, proved for every call.
use Rattle.std.specs.Prelude.{None, Option, Some}
use Prim.Native.Nat.{ℕ, zero, suc, ◌+◌, ◌≤◌}
use native.Mathlib.Omega.{arith}
use mathlib.Core.Path.{◌≡◌, refl, sym, ◌∙◌, ap, subst}
use mathlib.Core.Logic.{◌≢◌}
use mathlib.Core.Bool.{Bool, true, false, cond}
use mathlib.Core.List.{List}
use lib.Dec.{eqb}
use lib.ListN.{length, take, drop, length-append, length-drop}
use lib.Seq.{take-append_seam, drop-append_seam}
use borrow.Author.Tests.{not-false}
use Rattle.replies.specs.Rules.{Rule, refusal, Exact}
use Rattle.replies.proofs.Laws.Refusals.{Numbered, exact, done-exactly, none_right}
use Rattle.ipv6.specs.Packet.{fault_place, Placed}
use Rattle.ipv6.specs.Identifier.{link_local}
use Rattle.ipv6.proofs.Laws.Packet.{placed}
use Rattle.links.specs.declared.LinkIndex.{LinkIndex}
use Rattle.links.specs.declared.Named.{Named}
use Rattle.links.specs.declared.Settings.{Settings}
use Rattle.links.specs.declared.Table.{Table}
use Rattle.links.specs.Slots.{counted}
use Rattle.links.specs.Index.{enabled_at, named}
use Rattle.links.proofs.Laws.Demands.{table_demand_1, table_demand_2}
use Rattle.links.proofs.Laws.Run.{reached_long}
use Rattle.traffic.specs.Replies.{Choice, InterfaceAddress, Sending}
use Rattle.traffic.specs.Arrives.{Indication, Received, Link, topological, dynamic, stop, PerhapsStop, at, nowhere, stop_by, by_area, by_destination, by_source, failing, choose, kind_of, index_of, chosen_for, choice_rules, choice_or, choice_of, frame_or_packet, deliver, refuse, unless, indication_rules, receive}
use Rattle.traffic.specs.Leaves.{Request, request_values, link_rules, request_rules, sending, send, interface_rules, answer_interface, interface_on, interface}
use Rattle.traffic.specs.Run.{indication_rules_over, receive_over, request_rules_over, send_over, interface_rules_over, interface_over}
use Rattle.traffic.specs.Demands.{RefusesIndication, RefusesChoice, RefusesRequest, Demand1, IsLink, link_number, Delivers, Foretells, Sends, Addresses, Demand2}
use Rattle.traffic.proofs.Laws.Stops.{found_at_lem}
use Rattle.traffic.proofs.Laws.Receive.{indication_numbered, choice_numbered, received, received_unchosen, received_on, delivered, unchosen, chosen_on, room_left, room_for}
use Rattle.traffic.proofs.Laws.Run.{indication-over_numbered, request-over_numbered, interface_over_numbered, as_every_table}
use Rattle.traffic.proofs.Laws.Send.{request_numbered, interface_numbered, sending-done}

-- Demand 1

module _ (t : Table) (x : Indication) (buffer : List ℕ) where
  -- what is answered, by the number of the refusal
  Given : ℕ → Received
  Given n = unless n x buffer (deliver t x buffer (choose (counted t) x))

  number-given : (n : ℕ) → (Given n).reply.number ≡ n
  unfolding Given
  number-given zero = refl
  number-given (suc n) = refl

  place-given : (n : ℕ) → Placed x.packet (Given n).reply.number (Given n).reply.place
  unfolding Given fault_place
  place-given zero = placed x.packet 0
  place-given (suc n) = placed x.packet (suc n)

  refused-given : (n : ℕ) → (Given n).reply.number ≢ 0 → Given n ≡ refuse n x buffer
  unfolding Given
  refused-given zero h = absurd (h refl)
  refused-given (suc n) h = refl

  -- by any list of rules
  refuses_by : (rs : List Rule) → Numbered rs → RefusesIndication rs x buffer (Given (refusal rs))
  unfolding Given
  refuses_by rs k =
      let n = refusal rs in
      record {
        exact = subst (Exact rs) (sym (number-given n)) (exact rs k);
        place = place-given n;
        no_link = λ h. ap (λ (r : Received). r.reply.link) (refused-given n h);
        no_length = λ h. ap (λ (r : Received). r.reply.length) (refused-given n h);
        unchanged = λ h. ap (λ (r : Received). r.buffer) (refused-given n h);
      }

refuses-indication : (t : Table) (x : Indication) (buffer : List ℕ) → RefusesIndication (indication_rules x (length buffer)) x buffer (receive t x buffer)
unfolding receive Given
refuses-indication t x buffer = refuses_by t x buffer (indication_rules x (length buffer)) (indication_numbered x (length buffer))

refuses-indication-over : (t : Table) (x : Indication) (buffer : List ℕ) → RefusesIndication (indication_rules_over t x (length buffer)) x buffer (receive_over t x buffer)
unfolding receive_over Given
refuses-indication-over t x buffer = refuses_by t x buffer (indication_rules_over t x (length buffer)) (indication-over_numbered t x (length buffer))

module _ (t : Table) (x : Indication) where
  number-chosen : (n : ℕ) (l : Option LinkIndex) → (choice_or n x l).number ≡ n
  number-chosen zero l = refl
  number-chosen (suc n) l = refl

  place-chosen : (n : ℕ) (l : Option LinkIndex) → Placed x.packet (choice_or n x l).number (choice_or n x l).place
  unfolding fault_place
  place-chosen zero l = placed x.packet 0
  place-chosen (suc n) l = placed x.packet (suc n)

  none-chosen : (n : ℕ) (l : Option LinkIndex) → (choice_or n x l).number ≢ 0 → (choice_or n x l).link ≡ None
  none-chosen zero l h = absurd (h refl)
  none-chosen (suc n) l h = refl

  refuses_choice : RefusesChoice t x
  unfolding choice_of
  refuses_choice =
      let n = refusal (choice_rules x) in
      let l = index_of (choose (counted t) x) in
      record {
        exact = subst (Exact (choice_rules x)) (sym (number-chosen n l)) (exact (choice_rules x) (choice_numbered x));
        place = place-chosen n l;
        no_link = none-chosen n l;
      }

module _ (l : Named) (q : Request) where
  number-sent : (n : ℕ) → (sending n l q).number ≡ n
  number-sent zero = refl
  number-sent (suc n) = refl

  place-sent : (n : ℕ) → Placed q.packet (sending n l q).number (sending n l q).place
  unfolding fault_place
  place-sent zero = placed q.packet 0
  place-sent (suc n) = placed q.packet (suc n)

  none-sent : (n : ℕ) → (sending n l q).number ≢ 0 → (sending n l q).length ≡ 0
  none-sent zero h = absurd (h refl)
  none-sent (suc n) h = refl

refuses-request_by : (rs : List Rule) → Numbered rs → (l : Named) (q : Request) → RefusesRequest rs q (sending (refusal rs) l q)
refuses-request_by rs k l q =
    let n = refusal rs in
    record {
      exact = subst (Exact rs) (sym (number-sent l q n)) (exact rs k);
      place = place-sent l q n;
      no_length = none-sent l q n;
    }

refuses-request : (t : Table) (q : Request) → RefusesRequest (request_rules t q) q (send t q)
unfolding send
refuses-request t q = refuses-request_by (request_rules t q) (request_numbered t q) (named t q.index) q

refuses-request-over : (t : Table) (q : Request) → RefusesRequest (request_rules_over t q) q (send_over t q)
unfolding send_over
refuses-request-over t q = refuses-request_by (request_rules_over t q) (request-over_numbered t q) (named t q.index) q

number_of-interface : (n own : ℕ) → (answer_interface n own).number ≡ n
number_of-interface zero own = refl
number_of-interface (suc n) own = refl

refuses-interface_by : (rs : List Rule) → Numbered rs → (own : ℕ) → Exact rs (answer_interface (refusal rs) own).number
refuses-interface_by rs k own = subst (Exact rs) (sym (number_of-interface (refusal rs) own)) (exact rs k)

refuses-interface : (t : Table) (i : LinkIndex) → Exact (interface_rules (enabled_at (counted t) i)) (interface t i).number
unfolding interface interface_on
refuses-interface t i = refuses-interface_by (interface_rules (enabled_at (counted t) i)) (interface_numbered (enabled_at (counted t) i)) t.own

refuses-interface_over : (t : Table) (i : LinkIndex) → Exact (interface_rules_over t i) (interface_over t i).number
unfolding interface_over
refuses-interface_over t i = refuses-interface_by (interface_rules_over t i) (interface_over_numbered t i) t.own

pub demand_1 : Demand1
unfolding Demand1
demand_1 = (
  table_demand_1,
  refuses-indication,
  refuses-indication-over,
  refuses_choice,
  refuses-request,
  refuses-request-over,
  refuses-interface,
  refuses-interface_over,
)

-- Demand 2

-- the chosen link is a link of the table
chosen-link : (t : Table) (x : Indication) → IsLink t (choose (counted t) x)
unfolding choose
chosen-link t x = first (eqb x.transport 4)
  where
    by : (q : Settings → Bool) (k : Link) → IsLink t k → IsLink t (failing (stop_by q (counted t)) k)
    by q k r = go (stop_by q (counted t)) refl
      where
        go : (f : PerhapsStop) → stop_by q (counted t) ≡ f → IsLink t (failing f k)
        go (at j s) e = (found_at_lem q (counted t) j s e).0
        go nowhere e = r

    first : (b : Bool) → IsLink t (cond b topological (failing (stop_by (by_area x) (counted t)) (failing (stop_by (by_destination x) (counted t)) (failing (stop_by (by_source x) (counted t)) dynamic))))
    first true = tt
    first false = by (by_area x) _ (by (by_destination x) _ (by (by_source x) dynamic tt))

by_number : (l : Link) → index_of l ≡ Some (record { 0 = link_number l })
by_number topological = refl
by_number dynamic = refl
by_number (stop k s) = refl

module _ (t : Table) where
  delivers : (x : Indication) (buffer : List ℕ) → (receive t x buffer).reply.number ≡ 0 → Delivers t x buffer
  unfolding receive Given
  delivers x buffer e =
      let good : refusal (indication_rules x (length buffer)) ≡ 0 = sym (number-given t x buffer (refusal (indication_rules x (length buffer)))) ∙ e in
      let done = received t x buffer good in
      let kind = kind_of t (choose (counted t) x) in
      let w = frame_or_packet kind x in
      let room = room_for x (length buffer) kind (room_left x (length buffer) good) in
      record {
        is_link = chosen-link t x;
        link = ap (λ (r : Received). r.reply.link) done ∙ by_number (choose (counted t) x);
        frame_length = ap (λ (r : Received). r.reply.length) done;
        source = ap (λ (r : Received). r.reply.source) done;
        class = ap (λ (r : Received). r.reply.class) done;
        front = ap (λ (r : Received). take r.reply.length r.buffer) done ∙ take-append_seam w (drop (length w) buffer);
        rest =
            ap (λ (r : Received). drop r.reply.length r.buffer) done
            ∙ drop-append_seam w (drop (length w) buffer)
            ∙ sym (ap (λ (r : Received). drop r.reply.length buffer) done);
        size =
            ap (λ (r : Received). length r.buffer) done
            ∙ length-append w (drop (length w) buffer)
            ∙ (let left : length w + length (drop (length w) buffer) ≡ length buffer = omega (arith, length-drop (length w) buffer) in left);
      }

  -- with room for a frame, the answer is that of the question for the link
  foretells : (x : Indication) (buffer : List ℕ) → length x.packet + 14 ≤ length buffer → Foretells t x buffer
  foretells x buffer h = go (refusal (choice_rules x)) refl
    where
      go : (n : ℕ) → refusal (choice_rules x) ≡ n → Foretells t x buffer
      go zero e =
          let done = received_on t x buffer e ∙ delivered (chosen_for t x) x buffer h in
          let foretold = sym (chosen_on t x e) in
          record {
            number = ap (λ (r : Received). r.reply.number) done ∙ ap (λ (r : Choice). r.number) foretold;
            place = ap (λ (r : Received). r.reply.place) done ∙ ap (λ (r : Choice). r.place) foretold;
            link = ap (λ (r : Received). r.reply.link) done ∙ ap (λ (r : Choice). r.link) foretold;
          }
      go (suc n) e =
          let bad = received_unchosen t x buffer (suc n) (sym e) (λ z. omega arith) in
          let foretold = sym (unchosen t x (suc n) (sym e) (λ z. omega arith)) in
          record {
            number = ap (λ (r : Received). r.reply.number) bad ∙ ap (λ (r : Choice). r.number) foretold;
            place = ap (λ (r : Received). r.reply.place) bad ∙ ap (λ (r : Choice). r.place) foretold;
            link = ap (λ (r : Received). r.reply.link) bad ∙ ap (λ (r : Choice). r.link) foretold;
          }

  pub sends : (q : Request) → (send t q).number ≡ 0 → Sends t q
  unfolding send request_rules link_rules
  sends q e =
      let l = named t q.index in
      let good : refusal (request_rules t q) ≡ 0 = sym (number-sent l q (refusal (request_rules t q))) ∙ e in
      let none = none_right (request_values q) (link_rules l q) ((done-exactly (request_rules t q) (request_numbered t q)).0 good) in
      let done = sending-done l q (refusal (request_rules t q)) good in
      record {
        enabled = not-false (enabled_at (counted t) q.index) none.0;
        transport = ap (λ (r : Sending). r.transport) done;
        destination = ap (λ (r : Sending). r.destination) done;
        class = ap (λ (r : Sending). r.class) done;
        packet_length = ap (λ (r : Sending). r.length) done;
      }

  addresses : (i : LinkIndex) → (interface t i).number ≡ 0 → Addresses t i
  unfolding interface interface_on
  addresses i e =
      let done : interface t i ≡ record { number = 0; mid = t.own; address = link_local t.own } =
      ap (λ (n : ℕ). answer_interface n t.own) (sym (number_of-interface (refusal (interface_rules (enabled_at (counted t) i))) t.own) ∙ e) in
      record {
        mid = ap (λ (r : InterfaceAddress). r.mid) done;
        address = ap (λ (r : InterfaceAddress). r.address) done;
      }

pub demand_2 : Demand2
unfolding Demand2
demand_2 = (
  table_demand_2,
  λ most memory t r. as_every_table t (reached_long r),
  λ most memory t r. (delivers t, foretells t, sends t, addresses t),
)
