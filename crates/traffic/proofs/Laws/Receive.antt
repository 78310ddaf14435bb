-- What an indication answers, by the number that its rules give; and where it is delivered there is room.
use Rattle.std.specs.Prelude.{None}
use Prim.Native.Nat.{ℕ, zero, suc, ◌+◌, ◌≤◌, ◌<◌}
use native.Mathlib.Omega.{arith}
use mathlib.Core.Path.{◌≡◌, refl, sym, ap}
use mathlib.Core.Logic.{◌≢◌}
use mathlib.Core.Bool.{Bool, true, false, cond}
use mathlib.Core.List.{List}
use lib.Dec.{eqb, lit<}
use lib.ListN.{length}
use borrow.Author.Tests.{ltb-false, lt-ltb, le-ltb}
use Rattle.replies.specs.Rules.{refusal}
use Rattle.replies.proofs.Laws.Refusals.{Numbered, numbered_append, done-exactly, none_right, by_first, refusal_past}
use Rattle.ipv6.specs.Packet.{fault_place}
use Rattle.ipv6.proofs.Laws.Packet.{packet_numbered}
use Rattle.frames.specs.Frame.{frame}
use Rattle.frames.proofs.Laws.Grow.{frame_length_lem}
use Rattle.links.specs.declared.Chosen.{Chosen}
use Rattle.links.specs.declared.Table.{Table}
use Rattle.links.specs.Slots.{counted}
use Rattle.traffic.specs.Arrives.{Indication, mac_to, indication_values, content_rules, choice_rules, room_rules, indication_rules, choose, index_of, chosen_for, choice_or, choice_of, frame_or_packet, deliver_as, deliver, refuse, unless, receive, deliver_on}

pub values_numbered : (x : Indication) → Numbered (indication_values x)
unfolding indication_values
values_numbered x = (lit< tt, tt)

pub content_numbered : (x : Indication) → Numbered (content_rules x)
unfolding content_rules
content_numbered x = (lit< tt, packet_numbered x.packet)

pub choice_numbered : (x : Indication) → Numbered (choice_rules x)
unfolding choice_rules
choice_numbered x = numbered_append (indication_values x) (content_rules x) (values_numbered x) (content_numbered x)

pub room_numbered : (x : Indication) (room : ℕ) → Numbered (room_rules x room)
unfolding room_rules
room_numbered x room = (lit< tt, tt)

pub indication_numbered : (x : Indication) (room : ℕ) → Numbered (indication_rules x room)
unfolding indication_rules
indication_numbered x room = numbered_append (choice_rules x) (room_rules x room) (choice_numbered x) (room_numbered x room)

module _ (t : Table) (x : Indication) (buffer : List ℕ) where
  pub received-refused : (n : ℕ) → 0 < n → refusal (indication_rules x (length buffer)) ≡ n → receive t x buffer ≡ refuse n x buffer
  unfolding receive
  received-refused zero h e = absurd (omega arith)
  received-refused (suc n) h e = ap (λ (m : ℕ). unless m x buffer (deliver t x buffer (choose (counted t) x))) e

  pub received : refusal (indication_rules x (length buffer)) ≡ 0 → receive t x buffer ≡ deliver t x buffer (choose (counted t) x)
  unfolding receive
  received e = ap (λ (m : ℕ). unless m x buffer (deliver t x buffer (choose (counted t) x))) e

-- where a link is chosen, the rest is a delivery on it, whatever the layout of the table
module _ (t : Table) (x : Indication) (buffer : List ℕ) where
  pub received_unchosen : (n : ℕ) → n ≡ refusal (choice_rules x) → n ≢ 0 → receive t x buffer ≡ refuse n x buffer
  unfolding indication_rules
  received_unchosen n e h =
      received-refused t x buffer n (omega arith) (sym (by_first (choice_rules x) (room_rules x (length buffer)) n e h))

  pub received_on : refusal (choice_rules x) ≡ 0 → receive t x buffer ≡ deliver_on (chosen_for t x) x buffer
  unfolding receive deliver_on indication_rules
  received_on e =
      ap (λ (m : ℕ). unless m x buffer (deliver t x buffer (choose (counted t) x)))
      (refusal_past (choice_rules x) (room_rules x (length buffer)) (choice_numbered x) e)

-- the question for the link, by the number that its rules give
module _ (t : Table) (x : Indication) where
  pub unchosen : (n : ℕ) → n ≡ refusal (choice_rules x) → n ≢ 0 → choice_of t x ≡ record { number = n; place = fault_place n x.packet; link = None }
  unfolding choice_of
  unchosen zero e h = absurd (h refl)
  unchosen (suc n) e h = ap (λ (m : ℕ). choice_or m x (index_of (choose (counted t) x))) (sym e)

  pub chosen_on : refusal (choice_rules x) ≡ 0 → choice_of t x ≡ record { number = 0; place = 0; link = index_of (choose (counted t) x) }
  unfolding choice_of
  chosen_on e = ap (λ (m : ℕ). choice_or m x (index_of (choose (counted t) x))) e

-- room is asked last
pub room_left : (x : Indication) (room : ℕ) → refusal (indication_rules x room) ≡ 0 → refusal (room_rules x room) ≡ 0
unfolding indication_rules
room_left x room e =
    (done-exactly (room_rules x room) (room_numbered x room)).1
    (none_right (choice_rules x) (room_rules x room) ((done-exactly (indication_rules x room) (indication_numbered x room)).0 e))

pub room-enough : (x : Indication) (room : ℕ) → length x.packet + 14 ≤ room → refusal (room_rules x room) ≡ 0
unfolding room_rules
room-enough x room h = rw (le-ltb room (length x.packet + 14) h)

-- a delivery, with too little room and with enough
module _ (c : Chosen) (x : Indication) (buffer : List ℕ) where
  pub delivered_short : length buffer < length x.packet + 14 → deliver_on c x buffer ≡ refuse 13 x buffer
  unfolding deliver_on room_rules
  delivered_short h = rw (lt-ltb (length buffer) (length x.packet + 14) h)

  pub delivered : length x.packet + 14 ≤ length buffer → deliver_on c x buffer ≡ deliver_as (frame_or_packet c.kind x) x buffer c.index
  unfolding deliver_on
  delivered h =
      ap (λ (n : ℕ). unless n x buffer (deliver_as (frame_or_packet c.kind x) x buffer c.index)) (room-enough x (length buffer) h)

-- a frame is 14 bytes longer than its packet, and that much room there is
pub room_for : (x : Indication) (room kind : ℕ) → refusal (room_rules x room) ≡ 0 → length (frame_or_packet kind x) ≤ room
unfolding room_rules frame_or_packet
room_for x room kind e =
    let none = (done-exactly (room_rules x room) (room_numbered x room)).0 e in
    let enough : length x.packet + 14 ≤ room = ltb-false room (length x.packet + 14) none.0 in
    go (eqb kind 1) enough
  where
    go : (b : Bool) → length x.packet + 14 ≤ room → length (cond b (frame (mac_to x.destination) x.source x.packet) x.packet) ≤ room
    go true h = rw (frame_length_lem (mac_to x.destination) x.source x.packet) h
    go false h = omega arith
