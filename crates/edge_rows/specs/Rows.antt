-- RULES, Cases at the edges: those marked * as rows of one list, under the single statement `Edges`.
use Rattle.std.specs.Prelude.{◌^◌, List, [], ◌∷◌, ◌++◌, pos, take, replicate, None, Some}
use Rattle.area.specs.Area.{good_area}
use Rattle.links.specs.Calls.{enable, disable, set_area, set_own}
use Rattle.links.specs.Run.{reply_over}
use Rattle.ipv6.specs.Identifier.{link_local, mid_of}
use Rattle.traffic.specs.declared.Destination.TheVariants.{Within, Nothing as NoDestination}
use Rattle.traffic.specs.Run.{receive_over, interface_over}
use Rattle.edge_rows.specs.Row.{Row, Hold, ◌are◌, ◌is◌, says}
use Rattle.edge_rows.specs.Calls.{mid_or_zero, unspecified, loopback, all_nodes, mast, many_like_mast, in_internet, packet_to, packet, version_five, wrong_length, from_loopback, start_of, start_with, arriving, leaving_on, leaving, answered, ◌at◌, index_or_zero, given, circle, rectangle, ellipse, centred, west, east, stop_of, stop_at, stop, first, only, ◌equals◌, ◌differs-from◌, is_very, sent, to_server, unresolved, unicast_to, start_over_of, flags, over_three, call_over, arriving_over, leaving_over}
use Rattle.edge_rows.specs.SeveralRows.{several_rows, EqualSets}
use Rattle.edge_rows.specs.RefusalRows.{refusal_rows}

unfoldable pub rows : List Row
rows =
    -- edge-maximum: 1 refused, 2 good, 65 good, 66 refused
    ((start_with 1).number is 1)
    ∷ ((start_with 2).number is 0)
    ∷ ((start_with 65).number is 0)
    ∷ ((start_with 66).number is 1)
    -- edge-retired: kind 2 is 30, directly behind 1; kind 3 is good
    ∷ ((start_of 65 2 1).number is 30)
    ∷ ((start_of 65 1 2).number is 30)
    ∷ ((start_of 66 2 1).number is 1)
    ∷ ((start_of 65 3 3).number is 0)
    ∷ (first (stop_of (rectangle 1 1 360) 2 1) is 30)
    ∷ (first (stop_of (circle 1 0 0) 2 2) is 1)
    ∷ (first (stop_of (circle 1 0 0) 3 1) is 0)
    -- edge-index: links 2, 3, 4 enabled, 3 disabled: the next enabled gets 3
    ∷ (given (start_with 65).table (enable (stop 1) ∷ enable (stop 2) ∷ enable (stop 3) ∷ disable (record { 0 = 3 }) ∷ enable (stop 4) ∷ [])
    are (2 ∷ 3 ∷ 4 ∷ 0 ∷ 3 ∷ []))
    -- edge-address: own MID 02:00:00:00:00:01 gives fe80::ff:fe00:1, and back
    ∷ (link_local 0x020000000001 are mast)
    ∷ (mid_or_zero (mid_of (link_local 0x020000000001)) is 0x020000000001)
    -- edge-area: angle 359 good, 360 not; ellipse with b = 0 not, circle with b = 0 good
    ∷ (says (good_area (rectangle 1 1 359)) is 1)
    ∷ (says (good_area (rectangle 1 1 360)) is 0)
    ∷ (says (good_area (ellipse 1 0 0)) is 0)
    ∷ (says (good_area (circle 1 0 0)) is 1)
    -- edge-ground: what is the same ground
    ∷ (circle 5 0 0 equals circle 5 7 200)
    ∷ (rectangle 3 5 10 equals rectangle 3 5 190)
    ∷ (ellipse 3 5 10 equals ellipse 3 5 190)
    ∷ (rectangle 3 5 10 equals rectangle 5 3 100)
    ∷ (rectangle 3 5 300 equals rectangle 5 3 30)
    ∷ (ellipse 5 5 77 equals circle 5 0 0)
    ∷ (rectangle 5 5 0 equals rectangle 5 5 90)
    ∷ (rectangle 5 5 0 equals rectangle 5 5 180)
    ∷ (rectangle 5 5 0 equals rectangle 5 5 270)
    ∷ (centred (pos 0) west (rectangle 3 5 10) equals centred (pos 0) east (rectangle 3 5 10))
    ∷ (centred (pos 0) east (ellipse 5 5 77) equals centred (pos 0) west (ellipse 5 5 12))
    -- and what is not
    ∷ (rectangle 5 5 0 differs-from circle 5 5 0)
    ∷ (rectangle 5 5 0 differs-from ellipse 5 5 0)
    ∷ (rectangle 3 5 10 differs-from rectangle 3 5 11)
    ∷ (rectangle 3 5 10 differs-from rectangle 3 6 10)
    ∷ (rectangle 3 5 10 differs-from centred (pos 1) (pos 0) (rectangle 3 5 10))
    ∷ (rectangle 3 5 10 differs-from rectangle 5 3 10)
    ∷ (rectangle 3 5 10 differs-from rectangle 3 5 100)
    ∷ (centred (pos 900_000_000) (pos 0) (circle 5 0 0) differs-from centred (pos 900_000_000) (pos 1) (circle 5 0 0))
    -- edge-given: a request goes to the area as it was given
    ∷ (says (is_very (leaving_on (only (centred (pos 0) east (ellipse 5 5 77))) 2 None all_nodes (packet 40)).destination (centred (pos 0) east (ellipse 5 5 77))) is 1)
    -- edge-packet: 39, 40, 1,280 and 1,281 bytes: 20 at 39, good, good, 9
    ∷ (answered (packet 39) are 20 at 39)
    ∷ (answered (packet 40) are 0 at 0)
    ∷ (answered (packet 1280) are 0 at 0)
    ∷ (answered (packet 1281) are 9 at 0)
    -- edge-part: which part is bad, and where; the first of several
    ∷ (answered (packet 0) are 20 at 0)
    ∷ (answered (version_five (packet 39)) are 20 at 39)
    ∷ (answered (version_five (packet 40)) are 21 at 0)
    ∷ (answered (wrong_length (packet 40)) are 22 at 4)
    ∷ (answered (version_five (wrong_length (packet 40))) are 21 at 0)
    ∷ (answered (wrong_length (from_loopback (packet 40))) are 22 at 4)
    ∷ (answered (from_loopback (packet 40)) are 10 at 0)
    ∷ (answered (version_five (wrong_length (from_loopback (packet 1281)))) are 9 at 0)
    -- edge-order: what comes before the packet, and what behind it
    ∷ ((arriving (2 ^ 48) 3 (Within (rectangle 1 1 360)) 1294 (packet 40)).number is 1)
    ∷ ((arriving 2 3 (Within (rectangle 1 1 360)) 1294 (packet 39)).number is 2)
    ∷ ((arriving 2 4 NoDestination 0 (packet 39)).number is 20)
    ∷ ((leaving 5 (Some (2 ^ 48)) (packet 40)).number is 1)
    ∷ ((leaving 5 None (packet 39)).number is 7)
    ∷ ((leaving 1 None (packet 39)).number is 20)
    -- edge-next-hop: with flag 1 the MID is the next hop's
    ∷ (to_server 1 1 None unspecified are unresolved)
    ∷ (to_server 1 1 None loopback are unresolved)
    ∷ (to_server 1 1 None all_nodes are unresolved)
    ∷ (to_server 1 1 None many_like_mast are unresolved)
    ∷ (to_server 1 1 None (take 15 mast) are unresolved)
    ∷ (to_server 1 1 None (in_internet 1) are unresolved)
    ∷ (to_server 1 1 (Some 0x020000000002) (in_internet 1) are unresolved)
    ∷ (to_server 1 1 None mast are unicast_to 0x020000000001)
    -- with flag 0 it is the one given, which does not help a next hop that is not good
    ∷ (to_server 1 0 (Some 0x020000000002) (in_internet 1) are unicast_to 0x020000000002)
    ∷ (to_server 1 0 (Some 0x020000000002) unspecified are unresolved)
    ∷ (to_server 1 0 (Some 0x020000000002) loopback are unresolved)
    ∷ (to_server 1 0 (Some 0x020000000002) all_nodes are unresolved)
    ∷ (to_server 1 0 (Some 0x020000000002) (take 15 mast) are unresolved)
    ∷ (to_server 1 0 None (in_internet 1) are unresolved)
    ∷ (to_server 1 0 None mast are unresolved)
    -- on kind 3 it is the next hop's, though one is given
    ∷ (to_server 3 0 (Some 0x020000000002) mast are unicast_to 0x020000000001)
    -- a multicast packet goes by no next hop; a packet that is bad is refused before 12
    ∷ (sent (leaving_on (only (circle 5 0 0)) 2 None unspecified (packet 40)) are (0 ∷ 3 ∷ 0 ∷ []))
    ∷ (sent (leaving_on (only (circle 5 0 0)) 0 None unspecified (packet 40)) are (0 ∷ 4 ∷ 0 ∷ []))
    ∷ ((leaving_on (only (circle 5 0 0)) 2 None unspecified (packet_to (in_internet 5) 39)).number is 20)
    -- edge-run-start: three records do for a maximum of 4, and not of 5; 1 and 30 come before 23
    ∷ ((start_over_of 4 1).number is 0)
    ∷ ((start_over_of 5 1).number is 23)
    ∷ ((start_over_of 4093 1).number is 23)
    ∷ ((start_over_of 4094 1).number is 1)
    ∷ ((start_over_of 5 2).number is 30)
    ∷ ((start_over_of 1 1).number is 1)
    -- maximum - 1 records are cleared; a refused start clears none
    ∷ (flags (start_over_of 3 1).run are (0 ∷ 0 ∷ 1 ∷ []))
    ∷ (flags (start_over_of 5 1).run are (1 ∷ 1 ∷ 1 ∷ []))
    -- edge-run-short: 23 behind 1 and 30, and before all else
    ∷ (call_over 5 (enable (stop_of (rectangle 1 1 360) 1 2)) is 1)
    ∷ (call_over 5 (enable (stop_of (rectangle 1 1 360) 2 1)) is 30)
    ∷ (call_over 5 (enable (stop_at (rectangle 1 1 360))) is 23)
    ∷ (call_over 5 (enable (stop 1)) is 23)
    ∷ (call_over 5 (disable (record { 0 = 0 })) is 23)
    ∷ (call_over 5 (disable (record { 0 = 2 })) is 23)
    ∷ (call_over 5 (set_area (Some (rectangle 1 1 360))) is 23)
    ∷ (call_over 5 (set_own (2 ^ 48)) is 1)
    ∷ (call_over 5 (set_own 1) is 23)
    ∷ (arriving_over 5 (2 ^ 48) (rectangle 1 1 360) 39 are (1 ∷ 0 ∷ []))
    ∷ (arriving_over 5 2 (rectangle 1 1 360) 39 are (23 ∷ 0 ∷ []))
    ∷ (leaving_over 5 (Some (2 ^ 48)) 9 39 are (1 ∷ 0 ∷ []))
    ∷ (leaving_over 5 None 9 39 are (23 ∷ 0 ∷ []))
    ∷ ((interface_over (over_three 5) (record { 0 = 9 })).number is 23)
    -- edge-run-long: a run that is long enough answers as a table by value
    ∷ (call_over 4 (enable (stop_at (rectangle 1 1 360))) is 2)
    ∷ (call_over 4 (enable (stop 1)) is 4)
    ∷ (call_over 4 (enable (stop 4)) is 6)
    ∷ (call_over 4 (disable (record { 0 = 0 })) is 15)
    ∷ (call_over 3 (disable (record { 0 = 4 })) is 7)
    ∷ (call_over 4 (disable (record { 0 = 4 })) is 0)
    ∷ (flags (reply_over (over_three 4) (disable (record { 0 = 3 }))).table.slots are (1 ∷ 0 ∷ 1 ∷ []))
    ∷ (arriving_over 4 2 (circle 3 0 0) 39 are (20 ∷ 39 ∷ []))
    ∷ (index_or_zero (receive_over (over_three 4) (record { transport = 3; source = 2; class = 0; destination = Within (circle 3 0 0); packet = packet 40 }) (replicate 1294 0)).reply.link is 4)
    ∷ (index_or_zero (receive_over (over_three 3) (record { transport = 3; source = 2; class = 0; destination = Within (circle 3 0 0); packet = packet 40 }) (replicate 1294 0)).reply.link is 1)
    ∷ (leaving_over 3 None 4 39 are (7 ∷ 0 ∷ []))
    ∷ (leaving_over 4 None 4 40 are (0 ∷ 0 ∷ []))
    ∷ ((interface_over (over_three 4) (record { 0 = 9 })).number is 7)
    ∷ ((interface_over (over_three 4) (record { 0 = 1 })).number is 0)
    ∷ several_rows
    ++ refusal_rows

unfoldable pub Edges : Type 0
Edges = Hold rows × EqualSets
