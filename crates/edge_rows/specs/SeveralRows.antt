-- RULES, Cases at the edges: a stop with several prefixes (edge-several). Rows that the rule does not name judge definitions that its
-- own would let pass: overlaps at two different places, the last of four places, what stands past the count.
use Rattle.std.specs.Prelude.{ℕ, List, [], ◌∷◌, ◌++◌, get_or}
use Rattle.prefix.specs.Prefix.{no_prefix}
use Rattle.links.specs.declared.Settings.{Settings}
use Rattle.links.specs.declared.Table.{Table}
use Rattle.links.specs.Settings.{Same}
use Rattle.links.specs.Slots.{free}
use Rattle.links.specs.Calls.{enable, reply}
use Rattle.traffic.specs.declared.Destination.TheVariants.{Mid as ToMid}
use Rattle.edge_rows.specs.Row.{Row, ◌are◌, ◌is◌}
use Rattle.edge_rows.specs.Calls.{in_internet, packet_between, packet_to, arriving_on, index_or_zero, first, only_stop}
use Rattle.edge_rows.specs.Listed.{site, inside, host, bad, counting, listing, stop_with, bad_area_with, first_with, two_prefixes, beside_two}

-- what the table keeps of the first stop's list: the count, the lengths, the high words and the low ones
abbrev pub kept_of : Settings → List ℕ
kept_of s =
    let l = (get_or (only_stop s).slots 0 free).settings.prefixes in
    l.count ∷ l.lens ++ l.highs ++ l.lows

-- two stops with two prefixes each, links 2 and 3
abbrev pub two_stops : Table
two_stops = (reply (only_stop two_prefixes) (enable (stop_with 2 (listing (site 3 ∷ site 4 ∷ []))))).table

-- the link of a packet by GeoUnicast
abbrev pub unicast_on : Table → List ℕ → ℕ
unicast_on t p = index_or_zero (arriving_on t 2 1 (ToMid 1) 1294 p).link

unfoldable pub several_rows : List Row
several_rows =
    -- up to four are good; more are 29, whatever prefix is bad, but not where the area is
    (first_with (listing []) is 0)
    ∷ (first_with (listing (site 1 ∷ [])) is 0)
    ∷ (first_with (listing (site 1 ∷ site 2 ∷ site 3 ∷ site 4 ∷ [])) is 0)
    ∷ (first_with (counting 5 (site 1 ∷ site 2 ∷ site 3 ∷ site 4 ∷ [])) is 29)
    ∷ (first_with (counting 255 (site 1 ∷ site 2 ∷ site 3 ∷ site 4 ∷ [])) is 29)
    ∷ (first_with (counting 5 (bad ∷ site 2 ∷ site 3 ∷ site 4 ∷ [])) is 29)
    ∷ (first (bad_area_with (counting 5 (site 1 ∷ site 2 ∷ site 3 ∷ site 4 ∷ []))) is 2)
    -- two of one call overlap
    ∷ (first_with (listing (site 1 ∷ site 1 ∷ [])) is 5)
    ∷ (first_with (listing (site 1 ∷ inside 1 ∷ [])) is 5)
    ∷ (first_with (listing (inside 1 ∷ site 1 ∷ [])) is 5)
    ∷ (first_with (listing (site 1 ∷ site 2 ∷ site 3 ∷ inside 3 ∷ [])) is 5)
    ∷ (first_with (listing (site 1 ∷ site 2 ∷ site 3 ∷ inside 1 ∷ [])) is 5)
    ∷ (beside_two (stop_with 1 (listing (site 3 ∷ site 4 ∷ site 5 ∷ inside 5 ∷ []))) are (4 ∷ 0 ∷ []))
    -- length 0 in the list
    ∷ (first_with (listing (no_prefix ∷ [])) is 3)
    ∷ (first_with (listing (site 1 ∷ no_prefix ∷ [])) is 3)
    ∷ (first_with (listing (site 1 ∷ no_prefix ∷ site 1 ∷ [])) is 3)
    -- a second enable: at the same place of both lists, and at another
    ∷ (beside_two (stop_with 2 (listing (site 3 ∷ inside 2 ∷ []))) are (5 ∷ 0 ∷ []))
    ∷ (beside_two (stop_with 2 (listing (inside 2 ∷ site 3 ∷ []))) are (5 ∷ 0 ∷ []))
    ∷ (beside_two (stop_with 2 (listing (site 3 ∷ site 4 ∷ site 5 ∷ inside 1 ∷ []))) are (5 ∷ 0 ∷ []))
    ∷ (beside_two (stop_with 2 (listing (site 3 ∷ site 4 ∷ []))) are (0 ∷ 3 ∷ []))
    -- a place past the count: a bad prefix, one that overlaps in the call, one that overlaps the first link's
    ∷ (first_with (counting 1 (site 1 ∷ bad ∷ [])) is 0)
    ∷ (first_with (counting 1 (site 1 ∷ site 1 ∷ [])) is 0)
    ∷ (beside_two (stop_with 2 (counting 1 (site 3 ∷ site 1 ∷ []))) are (0 ∷ 3 ∷ []))
    -- it is blank in the table; what is listed stands there in its order
    ∷ (kept_of (stop_with 1 (counting 1 (site 1 ∷ bad ∷ site 3 ∷ bad ∷ [])))
    are (1 ∷ 48 ∷ 0 ∷ 0 ∷ 0 ∷ 0x20010db800010000 ∷ 0 ∷ 0 ∷ 0 ∷ 0 ∷ 0 ∷ 0 ∷ 0 ∷ []))
    ∷ (kept_of (stop_with 1 (listing (site 2 ∷ inside 1 ∷ [])))
    are (2 ∷ 48 ∷ 64 ∷ 0 ∷ 0 ∷ 0x20010db800020000 ∷ 0x20010db800010001 ∷ 0 ∷ 0 ∷ 0 ∷ 0 ∷ 0 ∷ 0 ∷ []))
    -- packets on two stops: every prefix is asked, and of all links for the destination before any is for the source
    ∷ (unicast_on two_stops (packet_to (host 4) 40) is 3)
    ∷ (unicast_on two_stops (packet_between (host 1) (in_internet 5) 40) is 2)
    ∷ (unicast_on two_stops (packet_between (host 4) (in_internet 5) 40) is 3)
    ∷ (unicast_on two_stops (packet_between (host 1) (host 4) 40) is 3)
    -- the last of four; one past the count, which leaves the packet to the DGVL
    ∷ (unicast_on (only_stop (stop_with 1 (listing (site 1 ∷ site 2 ∷ site 3 ∷ site 4 ∷ [])))) (packet_to (host 4) 40) is 2)
    ∷ (unicast_on (only_stop (stop_with 1 (counting 3 (site 1 ∷ site 2 ∷ site 3 ∷ site 4 ∷ [])))) (packet_to (host 4) 40) is 1)
    ∷ []

-- equal settings are a relation, which no row computes: the same prefixes in another order are, fewer and more are not
unfoldable pub EqualSets : Type 0
EqualSets =
    Same two_prefixes (stop_with 1 (listing (site 2 ∷ site 1 ∷ [])))
    × (Same two_prefixes (stop_with 1 (listing (site 1 ∷ []))) → ⊥)
    × (Same (stop_with 1 (listing (site 1 ∷ []))) two_prefixes → ⊥)
