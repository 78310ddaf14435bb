-- RULES, What leaves: the refusals of a request, what is sent down, and the interface address of a link.
use Rattle.area.specs.declared.Area.{Area}
use Rattle.std.specs.Prelude.{ℕ, zero, suc, Bool, true, false, cond, not, ◌&&◌, ◌||◌, List, [], ◌++◌, eqb, length, replicate, None, Option, Some}
use Rattle.replies.specs.Rules.{Rule, ◌if◌, ◌then◌, refusal}
use Rattle.ipv6.specs.Address.{multicast, good_hop}
use Rattle.ipv6.specs.Packet.{destination, packet_rules, fault_place}
use Rattle.ipv6.specs.Identifier.{mid_of, link_local}
use Rattle.links.specs.declared.Interface.{Interface}
use Rattle.links.specs.declared.LinkIndex.{LinkIndex}
use Rattle.links.specs.declared.Named.{Named}
use Rattle.links.specs.declared.Table.{Table}
use Rattle.links.specs.Settings.{mid_ok}
use Rattle.links.specs.Slots.{tvl_index, dgvl_index, counted}
use Rattle.links.specs.Index.{enabled_at, named}
use Rattle.traffic.specs.declared.Destination.{Destination}
use Rattle.traffic.specs.declared.Destination.TheVariants.{Mid, Within, Nothing}
use Rattle.traffic.specs.Replies.{InterfaceAddress, Sending}
use Rattle.traffic.specs.declared.RequestHead.{RequestHead}

pub record Request : Type 0 where
  pub index : LinkIndex
  pub class : ℕ
  pub neighbour : Option ℕ
  pub next_hop : List ℕ
  pub packet : List ℕ

abbrev pub request : RequestHead → List ℕ → List ℕ → Request
request h next_hop packet = record { index = h.index; class = h.class; neighbour = h.neighbour; next_hop = next_hop; packet = packet }

-- What is sent on a link, whatever the layout of the table that it was found in

-- neighbour-mid: where the next hop is good, the MID comes from it on kind 3, or with flag 1; with flag 0 on kinds 1 and 2 it is the
-- MID given
unfoldable pub neighbour_of : Interface → Option ℕ → List ℕ → Option ℕ
neighbour_of f given hop = cond (good_hop hop) (cond (eqb f.kind 3 || eqb f.flag 1) (mid_of hop) given) None

-- multicast-out: TSB without destination on the TVL, GeoBroadcast to the link's area on the others
pub record Down : Type 0 where
  pub transport : ℕ
  pub destination : Destination

abbrev pub within : Option Area → Destination
within (Some a) = Within a
within None = Nothing

abbrev pub to_neighbour : Option ℕ → Destination
to_neighbour (Some m) = Mid m
to_neighbour None = Nothing

unfoldable pub down : Named → Request → Down
down l q =
    cond (multicast (destination q.packet))
    (cond (eqb q.index.0 tvl_index.0)
    (record { transport = 4; destination = Nothing })
    (record { transport = 3; destination = within l.area }))
    (record { transport = 1; destination = to_neighbour (neighbour_of l.interface q.neighbour q.next_hop) })

-- Refusals

abbrev pub neighbour_ok : Option ℕ → Bool
neighbour_ok (Some m) = mid_ok m
neighbour_ok None = true

abbrev pub is_unset : Option Area → Bool
is_unset (Some a) = false
is_unset None = true

abbrev pub is_unknown : Option ℕ → Bool
is_unknown (Some m) = false
is_unknown None = true

-- request-refusals. 11: multicast on the DGVL without an area; 12: neighbour not resolvable
unfoldable pub resolve_rules : Named → Request → List Rule
resolve_rules l q =
    11 if (multicast (destination q.packet) && eqb q.index.0 dgvl_index.0 && is_unset l.area)
    then 12 if (not (multicast (destination q.packet)) && is_unknown (neighbour_of l.interface q.neighbour q.next_hop))
    then []

-- its values
unfoldable pub request_values : Request → List Rule
request_values q = 1 if not (neighbour_ok q.neighbour) then []

-- on the link that its index names
unfoldable pub link_rules : Named → Request → List Rule
link_rules l q =
    7 if not l.enabled
    then packet_rules q.packet
    ++ resolve_rules l q

unfoldable pub request_rules : Table → Request → List Rule
request_rules t q = request_values q ++ link_rules (named t q.index) q

-- The reply

abbrev pub not_sent : ℕ → List ℕ → Sending
not_sent n packet = record { number = n; place = fault_place n packet; transport = 0; destination = Nothing; class = 0; length = 0 }

abbrev pub sending : ℕ → Named → Request → Sending
sending zero l q = record {
  number = 0;
  place = 0;
  transport = (down l q).transport;
  destination = (down l q).destination;
  class = q.class;
  length = length q.packet;
}
sending (suc n) l q = not_sent (suc n) q.packet

unfoldable pub send : Table → Request → Sending
send t q = sending (refusal (request_rules t q)) (named t q.index) q

-- the half that knows no layout: a request on the link that its index names
unfoldable pub send_named : Named → Request → Sending
send_named l q = sending (refusal (request_values q ++ link_rules l q)) l q

-- where its values are good
unfoldable pub send_on : Named → Request → Sending
send_on l q = sending (refusal (link_rules l q)) l q

-- The interface address of an enabled link: the own MID, and fe80::/64 with the identifier built from it

unfoldable pub interface_rules : Bool → List Rule
interface_rules enabled = 7 if not enabled then []

abbrev pub answer_interface : ℕ → ℕ → InterfaceAddress
answer_interface zero own = record { number = 0; mid = own; address = link_local own }
answer_interface (suc n) own = record { number = suc n; mid = 0; address = replicate 16 0 }

-- the half that knows no layout: whether the link is enabled, and the own MID
unfoldable pub interface_on : Bool → ℕ → InterfaceAddress
interface_on enabled own = answer_interface (refusal (interface_rules enabled)) own

unfoldable pub interface : Table → LinkIndex → InterfaceAddress
interface t i = interface_on (enabled_at (counted t) i) t.own
