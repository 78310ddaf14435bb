-- RULES, What arrives: the refusals of an indication, the choice of its link in four lines, and what is written.
use Rattle.std.specs.Prelude.{ℕ, zero, suc, ◌+◌, ◌-◌, ◌^◌, ◌≡◌, Bool, true, false, cond, not, ◌&&◌, ◌||◌, List, [], ◌++◌, eqb, ltb, length, get_or, drop, None, Option, Some}
use Rattle.replies.specs.Rules.{Rule, ◌if◌, ◌then◌, refusal}
use Rattle.area.specs.declared.Area.{Area}
use Rattle.area.specs.Area.{good_area, same_area}
use Rattle.ipv6.specs.Packet.{source, destination, packet_rules, fault_place}
use Rattle.links.specs.declared.Chosen.{Chosen}
use Rattle.links.specs.declared.LinkIndex.{LinkIndex}
use Rattle.links.specs.declared.Settings.{Settings}
use Rattle.links.specs.declared.Slot.{Slot}
use Rattle.links.specs.declared.Table.{Table}
use Rattle.links.specs.Settings.{mid_ok, reaches}
use Rattle.links.specs.Slots.{tvl_index, dgvl_index, index_at, free, counted, any, place, with}
use Rattle.frames.specs.Frame.{frame}
use Rattle.traffic.specs.Replies.{Choice, Reception}
use Rattle.traffic.specs.declared.Destination.{Destination}
use Rattle.traffic.specs.declared.Destination.TheVariants.{Mid, Within, Nothing}
use Rattle.traffic.specs.declared.IndicationHead.{IndicationHead}

pub record Indication : Type 0 where
  pub transport : ℕ
  pub source : ℕ
  pub class : ℕ
  pub destination : Destination
  pub packet : List ℕ

abbrev pub indication : IndicationHead → List ℕ → Indication
indication h packet = record {
  transport = h.transport;
  source = h.source;
  class = h.class;
  destination = h.destination;
  packet = packet;
}

-- Refusals

-- destination-sort: MID for transport 1, area for 2 and 3, nothing for 4; a MID is in range
abbrev pub right_sort : Destination → ℕ → Bool
right_sort (Mid m) n = eqb n 1 && mid_ok m
right_sort (Within a) n = eqb n 2 || eqb n 3
right_sort Nothing n = eqb n 4

abbrev pub good_destination : Destination → Bool
good_destination (Mid m) = true
good_destination (Within a) = good_area a
good_destination Nothing = true

-- indication-refusals. No table stands here: whether an indication is refused is no matter of the table

-- its values
unfoldable pub indication_values : Indication → List Rule
indication_values x = 1 if not (mid_ok x.source && right_sort x.destination x.transport) then []

-- its area and its packet
unfoldable pub content_rules : Indication → List Rule
content_rules x = 2 if not (good_destination x.destination) then packet_rules x.packet

-- what refuses it before a link is chosen
unfoldable pub choice_rules : Indication → List Rule
choice_rules x = indication_values x ++ content_rules x

-- room for a frame, on a link of any kind
unfoldable pub room_rules : Indication → ℕ → List Rule
room_rules x room = 13 if ltb room (length x.packet + 14) then []

unfoldable pub indication_rules : Indication → ℕ → List Rule
indication_rules x room = choice_rules x ++ room_rules x room

-- The four lines

-- the link of an indication; a stop link by its place and its settings
pub data Link : Type 0 where
  topological : Link
  dynamic : Link
  stop : ℕ → Settings → Link

-- what looking for an enabled stop link finds
pub data PerhapsStop : Type 0 where
  at : ℕ → Settings → PerhapsStop
  nowhere : PerhapsStop

unfoldable pub stop_by : (Settings → Bool) → List Slot → PerhapsStop
stop_by q l = cond (any (with q) l) (at (place (with q) l) (get_or l (place (with q) l) free).settings) nowhere

-- the destination is this area
abbrev pub is_area : Destination → Area → Bool
is_area (Mid m) b = false
is_area (Within a) b = same_area b a
is_area Nothing b = false

-- line-2: transport 2 or 3, and an equal area
unfoldable pub by_area : Indication → Settings → Bool
by_area x s = (eqb x.transport 2 || eqb x.transport 3) && is_area x.destination s.area

-- line-3: transport 1, and one of its prefixes holds the packet's destination; failing that, its source
unfoldable pub by_destination : Indication → Settings → Bool
by_destination x s = eqb x.transport 1 && reaches s (destination x.packet)

unfoldable pub by_source : Indication → Settings → Bool
by_source x s = eqb x.transport 1 && reaches s (source x.packet)

abbrev pub failing : PerhapsStop → Link → Link
failing (at k s) l = stop k s
failing nowhere l = l

-- line-first: TSB is line-1, and the dynamic link line-4
unfoldable pub choose : List Slot → Indication → Link
choose l x =
    cond (eqb x.transport 4) topological
    (failing (stop_by (by_area x) l)
    (failing (stop_by (by_destination x) l)
    (failing (stop_by (by_source x) l)
    dynamic)))

-- What is written

abbrev pub kind_of : Table → Link → ℕ
kind_of t topological = t.tvl.kind
kind_of t dynamic = t.dgvl.kind
kind_of t (stop k s) = s.interface.kind

abbrev pub link_index : Link → LinkIndex
link_index topological = tvl_index
link_index dynamic = dgvl_index
link_index (stop k s) = index_at k

abbrev pub index_of : Link → Option LinkIndex
index_of l = Some (link_index l)

-- the link of the indication, as a delivery asks for it
abbrev pub chosen_for : Table → Indication → Chosen
chosen_for t x = record { index = link_index (choose (counted t) x); kind = kind_of t (choose (counted t) x) }

-- indication-link: which link an indication would take; none where it is refused, and the room is not asked
abbrev pub choice_or : ℕ → Indication → Option LinkIndex → Choice
choice_or zero x link = record { number = 0; place = 0; link = link }
choice_or (suc n) x link = record { number = suc n; place = fault_place (suc n) x.packet; link = None }

unfoldable pub choice_of : Table → Indication → Choice
choice_of t x = choice_or (refusal (choice_rules x)) x (index_of (choose (counted t) x))

-- frame-bytes: the destination MID for transport 1, FF:FF:FF:FF:FF:FF otherwise
abbrev pub mac_to : Destination → ℕ
mac_to (Mid m) = m
mac_to (Within a) = 2 ^ 48 - 1
mac_to Nothing = 2 ^ 48 - 1

-- frame-kind: an Ethernet frame on kind 1, the packet alone on kinds 2 and 3
unfoldable pub frame_or_packet : ℕ → Indication → List ℕ
frame_or_packet kind x =
    cond (eqb kind 1)
    (frame (mac_to x.destination) x.source x.packet)
    x.packet

-- The reply, and the lent buffer after it

pub record Received : Type 0 where
  pub reply : Reception
  pub buffer : List ℕ

abbrev pub deliver_as : List ℕ → Indication → List ℕ → LinkIndex → Received
deliver_as w x buffer index = record {
  reply = record { number = 0; place = 0; link = Some index; length = length w; source = x.source; class = x.class };
  buffer = w ++ drop (length w) buffer;
}

abbrev pub deliver : Table → Indication → List ℕ → Link → Received
deliver t x buffer l = deliver_as (frame_or_packet (kind_of t l) x) x buffer (link_index l)

abbrev pub not_received : ℕ → List ℕ → Reception
not_received n packet = record { number = n; place = fault_place n packet; link = None; length = 0; source = 0; class = 0 }

abbrev pub refuse : ℕ → Indication → List ℕ → Received
refuse n x buffer = record { reply = not_received n x.packet; buffer = buffer }

abbrev pub unless : ℕ → Indication → List ℕ → Received → Received
unless zero x buffer r = r
unless (suc n) x buffer r = refuse (suc n) x buffer

unfoldable pub receive : Table → Indication → List ℕ → Received
receive t x buffer = unless (refusal (indication_rules x (length buffer))) x buffer (deliver t x buffer (choose (counted t) x))

-- the half that knows no layout: an indication that nothing but the room can refuse, on the link that was chosen for it
unfoldable pub deliver_on : Chosen → Indication → List ℕ → Received
deliver_on c x buffer =
    unless (refusal (room_rules x (length buffer))) x buffer (deliver_as (frame_or_packet c.kind x) x buffer c.index)

-- what a call of the code promises of its reply r and of the buffer b that it leaves
abbrev pub Promised : Table → Indication → List ℕ → Reception → List ℕ → Type 0
Promised t x buffer r b = (r ≡ (receive t x buffer).reply) × (b ≡ (receive t x buffer).buffer)
