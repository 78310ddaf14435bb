-- RULES, Cases at the edges: which prefixes an enable takes (edge-prefix), and the order of its refusals (enable-refusals,
-- run-refusals), by what holds at once of each two that stand side by side; of the latter no edge rule speaks.
use Rattle.std.specs.Prelude.{ℕ, List, [], ◌∷◌}
use Rattle.links.specs.declared.Settings.{Settings}
use Rattle.links.specs.Calls.{enable, reply}
use Rattle.edge_rows.specs.Row.{Row, ◌are◌, ◌is◌}
use Rattle.edge_rows.specs.Calls.{start_with, circle, stop_of, call_over}
use Rattle.edge_rows.specs.Listed.{begins, site, inside, host, bad, counting, listing, stop_with, bad_area_with, first_with, enabling, two_prefixes, beside_two}

-- the first stop of a table, whose only prefix is this one
abbrev pub alone : ℕ → List ℕ → ℕ
alone len bytes = first_with (listing (begins len bytes ∷ []))

-- a second enable where there is no index for it
abbrev pub beside_full : Settings → List ℕ
beside_full s = enabling (reply (start_with 2).table (enable two_prefixes)).table s

unfoldable pub refusal_rows : List Row
refusal_rows =
    -- prefix-good: length 128 good, 129 not, and no bit set past the length
    (alone 128 (host 1) is 0)
    ∷ (alone 129 (host 1) is 3)
    ∷ (alone 127 (host 1) is 3)
    -- prefix-reserved: what is around fe80::/10 or ff00::/8, and the two themselves
    ∷ (alone 1 (0x80 ∷ []) is 3)
    ∷ (alone 2 (0xc0 ∷ []) is 3)
    ∷ (alone 3 (0xe0 ∷ []) is 3)
    ∷ (alone 4 (0xf0 ∷ []) is 3)
    ∷ (alone 5 (0xf8 ∷ []) is 3)
    ∷ (alone 6 (0xfc ∷ []) is 3)
    ∷ (alone 7 (0xfe ∷ []) is 3)
    ∷ (alone 8 (0xfe ∷ []) is 3)
    ∷ (alone 9 (0xfe ∷ 0x80 ∷ []) is 3)
    ∷ (alone 10 (0xfe ∷ 0x80 ∷ []) is 3)
    ∷ (alone 8 (0xff ∷ []) is 3)
    -- what is inside: the first and the last of each. A block that is told too small would show in the last alone
    ∷ (alone 64 (0xfe ∷ 0x80 ∷ []) is 3)
    ∷ (alone 16 (0xfe ∷ 0xbf ∷ []) is 3)
    ∷ (alone 16 (0xff ∷ 0 ∷ []) is 3)
    ∷ (alone 16 (0xff ∷ 0xff ∷ []) is 3)
    -- good, though near
    ∷ (alone 1 [] is 0)
    ∷ (alone 2 (0x80 ∷ []) is 0)
    ∷ (alone 3 (0xc0 ∷ []) is 0)
    ∷ (alone 5 (0xf0 ∷ []) is 0)
    ∷ (alone 7 (0xfc ∷ []) is 0)
    ∷ (alone 9 (0xfe ∷ []) is 0)
    ∷ (alone 10 (0xfe ∷ 0xc0 ∷ []) is 0)
    -- enable-refusals: 3 before 4, 4 before 5 of either cause, 5 of either cause before 6. What comes before 3 stands in edge-retired
    -- (1 before 30, 30 before 2) and in edge-several (2 before 29, 29 before 3)
    ∷ (beside_two (stop_with 1 (listing (site 3 ∷ bad ∷ []))) are (3 ∷ 0 ∷ []))
    ∷ (beside_two (stop_with 1 (listing (site 3 ∷ site 3 ∷ []))) are (4 ∷ 0 ∷ []))
    ∷ (beside_two (stop_with 1 (listing (site 1 ∷ []))) are (4 ∷ 0 ∷ []))
    ∷ (beside_full (stop_with 2 (listing (site 3 ∷ site 3 ∷ []))) are (5 ∷ 0 ∷ []))
    ∷ (beside_full (stop_with 2 (listing (inside 2 ∷ []))) are (5 ∷ 0 ∷ []))
    ∷ (beside_full (stop_with 2 (listing (site 3 ∷ site 4 ∷ []))) are (6 ∷ 0 ∷ []))
    -- run-refusals, on a run that is too short: 1 before 30, and 23 before 29. 30 before 23 and 23 before 2 stand in edge-run-short
    ∷ (call_over 5 (enable (stop_of (circle 4 0 0) 2 2)) is 1)
    ∷ (call_over 5 (enable (stop_with 4 (counting 5 (site 1 ∷ site 2 ∷ site 3 ∷ site 4 ∷ [])))) is 23)
    -- and on one that is long enough, and full: as by value
    ∷ (call_over 4 (enable (bad_area_with (counting 5 (site 1 ∷ site 2 ∷ site 3 ∷ site 4 ∷ [])))) is 2)
    ∷ (call_over 4 (enable (stop_with 4 (counting 5 (bad ∷ site 2 ∷ site 3 ∷ site 4 ∷ [])))) is 29)
    ∷ (call_over 4 (enable (stop_with 1 (listing (site 1 ∷ bad ∷ [])))) is 3)
    ∷ (call_over 4 (enable (stop_with 1 (listing (site 1 ∷ site 1 ∷ [])))) is 4)
    ∷ (call_over 4 (enable (stop_with 4 (listing (site 1 ∷ site 1 ∷ [])))) is 5)
    ∷ (call_over 4 (enable (stop_with 4 (listing (site 1 ∷ site 2 ∷ [])))) is 6)
    ∷ []
