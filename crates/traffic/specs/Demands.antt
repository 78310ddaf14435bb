-- Rules demand-1 and demand-2, for every call: start, enable, disable, DGVL area and own MID (`links: Demands`),
-- indication, request and interface address. The last three give back no table: they leave it as it is.
use Rattle.std.specs.Prelude.{ℕ, ◌+◌, ◌≤◌, ◌≡◌, ◌≢◌, true, List, length, take, drop, None, Some}
use Rattle.replies.specs.Rules.{Rule, Exact}
use Rattle.ipv6.specs.Packet.{Placed}
use Rattle.ipv6.specs.Identifier.{link_local}
use Rattle.links.specs.declared.LinkIndex.{LinkIndex}
use Rattle.links.specs.declared.Slot.{Slot}
use Rattle.links.specs.declared.Table.{Table}
use Rattle.links.specs.Slots.{Has, counted}
use Rattle.links.specs.Index.{enabled_at, named}
use Rattle.links.specs.Reached.{Reached}
use Rattle.links.specs.Demands.{TableDemand1, TableDemand2}
use Rattle.traffic.specs.Replies.{Sending}
use Rattle.traffic.specs.Arrives.{Indication, Received, Link, topological, dynamic, stop, choose, kind_of, frame_or_packet, choice_rules, choice_of, indication_rules, receive}
use Rattle.traffic.specs.Leaves.{Request, request_rules, down, send, interface_rules, interface}
use Rattle.traffic.specs.Run.{indication_rules_over, receive_over, request_rules_over, send_over, interface_rules_over, interface_over}

-- Demand 1

-- an indication that these rules refuse, and its answer: each number exactly under its condition, with the place of what is bad in
-- the packet; a refusal gives no link and no length, and leaves the buffer as it was
pub record RefusesIndication (rs : List Rule) (x : Indication) (buffer : List ℕ) (a : Received) : Type 0 where
  pub exact : Exact rs a.reply.number
  pub place : Placed x.packet a.reply.number a.reply.place
  pub no_link : a.reply.number ≢ 0 → a.reply.link ≡ None
  pub no_length : a.reply.number ≢ 0 → a.reply.length ≡ 0
  pub unchanged : a.reply.number ≢ 0 → a.buffer ≡ buffer

-- the question for its link, where no buffer is lent
pub record RefusesChoice (t : Table) (x : Indication) : Type 0 where
  pub exact : Exact (choice_rules x) (choice_of t x).number
  pub place : Placed x.packet (choice_of t x).number (choice_of t x).place
  pub no_link : (choice_of t x).number ≢ 0 → (choice_of t x).link ≡ None

-- a request, likewise
pub record RefusesRequest (rs : List Rule) (q : Request) (a : Sending) : Type 0 where
  pub exact : Exact rs a.number
  pub place : Placed q.packet a.number a.place
  pub no_length : a.number ≢ 0 → a.length ≡ 0

-- of both layouts: of a table by value, and of one over a run, with 23 in its place
unfoldable pub Demand1 : Type 0
Demand1 =
    TableDemand1
    × ((t : Table) (x : Indication) (buffer : List ℕ) → RefusesIndication (indication_rules x (length buffer)) x buffer (receive t x buffer))
    × ((t : Table) (x : Indication) (buffer : List ℕ) → RefusesIndication (indication_rules_over t x (length buffer)) x buffer (receive_over t x buffer))
    × ((t : Table) (x : Indication) → RefusesChoice t x)
    × ((t : Table) (q : Request) → RefusesRequest (request_rules t q) q (send t q))
    × ((t : Table) (q : Request) → RefusesRequest (request_rules_over t q) q (send_over t q))
    × ((t : Table) (i : LinkIndex) → Exact (interface_rules (enabled_at (counted t) i)) (interface t i).number)
    × ((t : Table) (i : LinkIndex) → Exact (interface_rules_over t i) (interface_over t i).number)

-- Demand 2, over reached tables

-- a link of the table: the two fixed ones, and the stop links that are enabled
abbrev pub IsLink : Table → Link → Type 0
IsLink t topological = Unit {0}
IsLink t dynamic = Unit {0}
IsLink t (stop k s) = Has (counted t) k s

-- link-fixed, link-lowest-index: the fixed links by their numbers, and slot k as the record of index k + 2
abbrev pub link_number : Link → ℕ
link_number topological = 0
link_number dynamic = 1
link_number (stop k s) = k + 2

-- an indication that is done: on the link that the four lines choose, its frame or packet, and the rest of the buffer as it was
pub record Delivers (t : Table) (x : Indication) (buffer : List ℕ) : Type 0 where
  pub is_link : IsLink t (choose (counted t) x)
  pub link : (receive t x buffer).reply.link ≡ Some (record { 0 = link_number (choose (counted t) x) })
  pub frame_length : (receive t x buffer).reply.length ≡ length (frame_or_packet (kind_of t (choose (counted t) x)) x)
  pub source : (receive t x buffer).reply.source ≡ x.source
  pub class : (receive t x buffer).reply.class ≡ x.class
  pub front : take (receive t x buffer).reply.length (receive t x buffer).buffer ≡ frame_or_packet (kind_of t (choose (counted t) x)) x
  pub rest : drop (receive t x buffer).reply.length (receive t x buffer).buffer ≡ drop (receive t x buffer).reply.length buffer
  pub size : length (receive t x buffer).buffer ≡ length buffer

-- the link that is foretold without a buffer is the one that a buffer with room for a frame is given
pub record Foretells (t : Table) (x : Indication) (buffer : List ℕ) : Type 0 where
  pub number : (receive t x buffer).reply.number ≡ (choice_of t x).number
  pub place : (receive t x buffer).reply.place ≡ (choice_of t x).place
  pub link : (receive t x buffer).reply.link ≡ (choice_of t x).link

-- a request that is done: what the rules send down, with its class and its packet's length
pub record Sends (t : Table) (q : Request) : Type 0 where
  pub enabled : enabled_at (counted t) q.index ≡ true
  pub transport : (send t q).transport ≡ (down (named t q.index) q).transport
  pub destination : (send t q).destination ≡ (down (named t q.index) q).destination
  pub class : (send t q).class ≡ q.class
  pub packet_length : (send t q).length ≡ length q.packet

-- the interface address of an enabled link: the own MID, and the address that gives it back
pub record Addresses (t : Table) (i : LinkIndex) : Type 0 where
  pub mid : (interface t i).mid ≡ t.own
  pub address : (interface t i).address ≡ link_local t.own

-- a reached table over a run answers as every table does
pub record AsEveryTable (t : Table) : Type 0 where
  pub indications : (x : Indication) (buffer : List ℕ) → receive_over t x buffer ≡ receive t x buffer
  pub requests : (q : Request) → send_over t q ≡ send t q
  pub addresses : (i : LinkIndex) → interface_over t i ≡ interface t i

unfoldable pub Demand2 : Type 0
Demand2 =
    TableDemand2
    × ((most : ℕ) (memory : List Slot) (t : Table) → Reached most memory t → AsEveryTable t)
    × ((most : ℕ) (memory : List Slot) (t : Table) → Reached most memory t →
    ((x : Indication) (buffer : List ℕ) → (receive t x buffer).reply.number ≡ 0 → Delivers t x buffer)
    × ((x : Indication) (buffer : List ℕ) → length x.packet + 14 ≤ length buffer → Foretells t x buffer)
    × ((q : Request) → (send t q).number ≡ 0 → Sends t q)
    × ((i : LinkIndex) → (interface t i).number ≡ 0 → Addresses t i))
