-- The calls that the rows make, on packets, areas and tables that are written out.
use Rattle.links.specs.declared.LinkIndex.{LinkIndex}
use Rattle.std.specs.Prelude.{ℕ, ◌-◌, Bool, false, List, [], ◌∷◌, ◌++◌, ℤ, pos, neg_ℤ, take, drop, replicate, None, Option, Some}
use Rattle.octets.specs.Digits.{digits}
use Rattle.area.specs.declared.Area.{Area}
use Rattle.area.specs.Area.{same_numbers}
use Rattle.area.specs.Ground.{area}
use Rattle.prefixes.specs.declared.Prefixes.{Prefixes}
use Rattle.prefixes.specs.Prefixes.{no_prefixes}
use Rattle.links.specs.Replies.{Reply}
use Rattle.links.specs.declared.Settings.{Settings}
use Rattle.links.specs.declared.Slot.{Slot}
use Rattle.links.specs.declared.Table.{Table}
use Rattle.links.specs.Slots.{in_use}
use Rattle.links.specs.Calls.{TableCall, enable, reply, start_by_value}
use Rattle.links.specs.Run.{over, fresh_head, reply_over, Started, start_over}
use Rattle.ipv6.specs.Packet.{destination}
use Rattle.traffic.specs.declared.Destination.{Destination}
use Rattle.traffic.specs.declared.Destination.TheVariants.{Mid as ToMid, Within, Nothing as NoDestination}
use Rattle.traffic.specs.Replies.{Reception, Sending}
use Rattle.traffic.specs.Arrives.{receive}
use Rattle.traffic.specs.Leaves.{send}
use Rattle.traffic.specs.Run.{receive_over, send_over}
use Rattle.edge_rows.specs.Row.{Row, ◌are◌, says}

abbrev pub mid_or_zero : Option ℕ → ℕ
mid_or_zero (Some m) = m
mid_or_zero None = 0

-- addresses: ::, ::1, ff02::1
abbrev pub unspecified : List ℕ
unspecified = replicate 16 0

abbrev pub loopback : List ℕ
loopback = replicate 15 0 ++ 1 ∷ []

abbrev pub all_nodes : List ℕ
all_nodes = 0xff ∷ 2 ∷ replicate 13 0 ++ 1 ∷ []

-- 02:00:00:00:00:01's, fe80::ff:fe00:1; a multicast one that ends like it, ff02::ff:fe00:1; and 2001:db8::n, without FF FE
abbrev pub mast : List ℕ
mast = 0xfe ∷ 0x80 ∷ replicate 9 0 ++ 0xff ∷ 0xfe ∷ 0 ∷ 0 ∷ 1 ∷ []

abbrev pub many_like_mast : List ℕ
many_like_mast = 0xff ∷ 2 ∷ drop 2 mast

abbrev pub in_internet : ℕ → List ℕ
in_internet n = 0x20 ∷ 1 ∷ 0x0d ∷ 0xb8 ∷ replicate 11 0 ++ n ∷ []

-- a packet of n bytes from one address to another: of its header as much as there is room for; from fe80::1; from there to ff02::1
abbrev pub packet_between : List ℕ → List ℕ → ℕ → List ℕ
packet_between source address n =
    take n
    (0x60 ∷ 0 ∷ 0 ∷ 0 ∷ digits 256 2 (n - 40)
    ++ 59 ∷ 64 ∷ source
    ++ address
    ++ replicate (n - 40) 0)

abbrev pub packet_to : List ℕ → ℕ → List ℕ
packet_to address n = packet_between (0xfe ∷ 0x80 ∷ replicate 13 0 ++ 1 ∷ []) address n

abbrev pub packet : ℕ → List ℕ
packet n = packet_to all_nodes n

-- another version; another length field, which fits no packet here; the source ::1
abbrev pub version_five : List ℕ → List ℕ
version_five p = 0x50 ∷ drop 1 p

abbrev pub wrong_length : List ℕ → List ℕ
wrong_length p = take 4 p ++ 0xff ∷ 0xff ∷ drop 6 p

abbrev pub from_loopback : List ℕ → List ℕ
from_loopback p = take 8 p ++ loopback ++ drop 24 p

-- a start with a maximum, and fixed links of these kinds and flag 1; of kind 1
abbrev pub start_of : ℕ → ℕ → ℕ → Reply
start_of max tvl dgvl = start_by_value (record { own = 1; max = max; tvl = record { kind = tvl; flag = 1 }; dgvl = record { kind = dgvl; flag = 1 } })

abbrev pub start_with : ℕ → Reply
start_with max = start_of max 1 1

-- a packet that arrives: its source MID, its transport and destination, and the room that is lent
abbrev pub arriving_on : Table → ℕ → ℕ → Destination → ℕ → List ℕ → Reception
arriving_on t source transport to room p =
    (receive t (record { transport = transport; source = source; class = 0; destination = to; packet = p }) (replicate room 0)).reply

-- one that leaves: the index of its link, perhaps a neighbour's MID, and its next hop
abbrev pub leaving_on : Table → ℕ → Option ℕ → List ℕ → List ℕ → Sending
leaving_on t index neighbour hop p =
    send t (record { index = record { 0 = index }; class = 0; neighbour = neighbour; next_hop = hop; packet = p })

-- on a table without a stop; the far end is the next hop, because it decides none of the rows that ask this
abbrev pub arriving : ℕ → ℕ → Destination → ℕ → List ℕ → Reception
arriving source transport to room p = arriving_on (start_with 65).table source transport to room p

abbrev pub leaving : ℕ → Option ℕ → List ℕ → Sending
leaving index neighbour p = leaving_on (start_with 65).table index neighbour (destination p) p

-- number and place of a packet: by TSB, where room is lent for every packet, and on the TVL
abbrev pub answered : List ℕ → List ℕ
answered p =
    (arriving 2 4 NoDestination 1294 p).number ∷ (arriving 2 4 NoDestination 1294 p).place ∷ (leaving 0 None p).number ∷ (leaving 0 None p).place ∷ []

-- which are the same
infix 19 ◌at◌
abbrev pub ◌at◌ : ℕ → ℕ → List ℕ
number at place = number ∷ place ∷ number ∷ place ∷ []

abbrev pub index_or_zero : Option LinkIndex → ℕ
index_or_zero (Some i) = i.0
index_or_zero None = 0

-- the links that calls give, one call after the other; 0 for none
abbrev pub given : Table → List TableCall → List ℕ
given t [] = []
given t (c ∷ cs) = index_or_zero (reply t c).link ∷ given (reply t c).table cs

-- areas by a, b and angle, at 0, 0; and elsewhere
abbrev pub circle : ℕ → ℕ → ℕ → Area
circle a b angle = area 0 (pos 0) (pos 0) a b angle

abbrev pub rectangle : ℕ → ℕ → ℕ → Area
rectangle a b angle = area 1 (pos 0) (pos 0) a b angle

abbrev pub ellipse : ℕ → ℕ → ℕ → Area
ellipse a b angle = area 2 (pos 0) (pos 0) a b angle

abbrev pub centred : ℤ → ℤ → Area → Area
centred latitude longitude x = area x.shape latitude longitude x.a x.b x.angle

-- the ends of the longitude range
abbrev pub west : ℤ
west = neg_ℤ (pos 1_800_000_000)

abbrev pub east : ℤ
east = pos 1_800_000_000

-- a stop, by its area, prefixes, kind and flag; without a prefix; of kind 1 and flag 1
abbrev pub settings : Area → Prefixes → ℕ → ℕ → Settings
settings x prefixes kind flag = record { area = x; prefixes = prefixes; interface = record { kind = kind; flag = flag } }

abbrev pub stop_of : Area → ℕ → ℕ → Settings
stop_of x kind flag = settings x no_prefixes kind flag

abbrev pub stop_at : Area → Settings
stop_at x = stop_of x 1 1

abbrev pub stop : ℕ → Settings
stop n = stop_at (circle n 0 0)

-- the first stop of a table, by the number that its enable gets
abbrev pub first : Settings → ℕ
first s = (reply (start_with 65).table (enable s)).number

-- a table with this stop alone, which is link 2; of kind 1 and flag 1
abbrev pub only_stop : Settings → Table
only_stop s = (reply (start_with 65).table (enable s)).table

abbrev pub only : Area → Table
only x = only_stop (stop_at x)

-- a second enable beside it, by number and link, and the link of a broadcast
abbrev pub beside : Area → Area → List ℕ
beside x y =
    (reply (only x) (enable (stop_at y))).number
    ∷ index_or_zero (reply (only x) (enable (stop_at y))).link
    ∷ index_or_zero (arriving_on (only x) 2 3 (Within y) 1294 (packet 40)).link
    ∷ []

-- the same ground: 4, and the broadcast arrives on the stop; not the same: link 3, and the DGVL
infix 18 ◌equals◌
infix 18 ◌differs-from◌
abbrev pub ◌equals◌ : Area → Area → Row
x equals y = beside x y are (4 ∷ 0 ∷ 2 ∷ [])

abbrev pub ◌differs-from◌ : Area → Area → Row
x differs-from y = beside x y are (0 ∷ 3 ∷ 1 ∷ [])

-- a destination is this very area
abbrev pub is_very : Destination → Area → Bool
is_very (ToMid m) x = false
is_very (Within y) x = same_numbers y x
is_very NoDestination x = false

abbrev pub to_mid_or_zero : Destination → ℕ
to_mid_or_zero (ToMid m) = m
to_mid_or_zero (Within y) = 0
to_mid_or_zero NoDestination = 0

-- of what leaves, its number, its transport, and the MID that it goes to
abbrev pub sent : Sending → List ℕ
sent s = s.number ∷ s.transport ∷ to_mid_or_zero s.destination ∷ []

-- a packet to a film server, 2001:db8::5, on the only stop: the link's kind and flag, perhaps a neighbour's MID, and the next hop
abbrev pub to_server : ℕ → ℕ → Option ℕ → List ℕ → List ℕ
to_server kind flag neighbour hop = sent (leaving_on (only_stop (stop_of (circle 5 0 0) kind flag)) 2 neighbour hop (packet_to (in_internet 5) 40))

-- which is not resolvable, or goes to a MID by GeoUnicast
abbrev pub unresolved : List ℕ
unresolved = 12 ∷ 0 ∷ 0 ∷ []

abbrev pub unicast_to : ℕ → List ℕ
unicast_to m = 0 ∷ 1 ∷ m ∷ []

-- a run of three records, whose links are all enabled; a start over it, and which of its records are enabled then
abbrev pub three_records : List Slot
three_records = in_use (stop 1) ∷ in_use (stop 2) ∷ in_use (stop 3) ∷ []

abbrev pub start_over_of : ℕ → ℕ → Started
start_over_of max tvl = start_over three_records (record { own = 1; max = max; tvl = record { kind = tvl; flag = 1 }; dgvl = record { kind = 1; flag = 1 } })

abbrev pub flags : List Slot → List ℕ
flags [] = []
flags (x ∷ l) = says x.enabled ∷ flags l

-- a table over that run with this maximum: of 4 it is long enough, of 5 too short
abbrev pub over_three : ℕ → Table
over_three max = over (fresh_head (record { own = 1; max = max; tvl = record { kind = 1; flag = 1 }; dgvl = record { kind = 1; flag = 1 } })) three_records

-- the numbers that calls on it get; of a packet with its place
abbrev pub call_over : ℕ → TableCall → ℕ
call_over max c = (reply_over (over_three max) c).number

abbrev pub arriving_over : ℕ → ℕ → Area → ℕ → List ℕ
arriving_over max source to bytes =
    let r = (receive_over (over_three max) (record { transport = 3; source = source; class = 0; destination = Within to; packet = packet bytes }) (replicate 1294 0)).reply in
    r.number ∷ r.place ∷ []

abbrev pub leaving_over : ℕ → Option ℕ → ℕ → ℕ → List ℕ
leaving_over max neighbour index bytes =
    let r = send_over (over_three max) (record { index = record { 0 = index }; class = 0; neighbour = neighbour; next_hop = mast; packet = packet bytes }) in
    r.number ∷ r.place ∷ []
