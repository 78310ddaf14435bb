-- RULES, Cases at the edges (edge-stars): one test computes every row, and one law turns it into the statement.
use native.Mathlib.Omega.{arith}
use mathlib.Core.Path.{◌≡◌, refl, ap}
use mathlib.Core.Logic.{◌⊎◌, inl, inr}
use mathlib.Core.Bool.{Bool, true, false, ◌&&◌}
use mathlib.Core.List.{List, [], ◌∷◌}
use lib.Dec.{T}
use Rattle.octets.specs.Digits.{digits, number, bits}
use Rattle.octets.specs.Runs.{same, all_zero}
use Rattle.octets.proofs.Laws.Runs.{same_true}
use Rattle.area.specs.Area.{good_area, normal_by, normal, same_numbers, has_normal, same_area}
use Rattle.prefix.specs.declared.Prefix.{Prefix}
use Rattle.prefix.specs.Prefix.{agrees, holds, holds_prefix, overlap, good_prefix}
use Rattle.prefixes.specs.Prefixes.{listed, any_of, all_of, good_prefixes, holds_any, meets, overlapping, within, overlap_within, Among}
use Rattle.links.specs.Settings.{interface_ok, settings_values, ground_rules, settings_rules, same_ground, overlaps, overlaps_itself, reaches, stored}
use Rattle.links.specs.Slots.{any, place}
use Rattle.links.specs.Index.{area_at, interface_at, enabled_at}
use Rattle.links.specs.Calls.{slot_rules, rules, link_after, table_after, reply, start_values, cleared, fresh, start}
use Rattle.links.specs.Run.{rules_over, reply_over, start_rules_over, start_over}
use Rattle.ipv6.specs.Address.{multicast, good_hop}
use Rattle.ipv6.specs.Packet.{forbidden, packet_rules, fault_place}
use Rattle.traffic.specs.Arrives.{indication_values, content_rules, choice_rules, room_rules, indication_rules, stop_by, by_area, by_destination, by_source, choose, receive}
use Rattle.traffic.specs.Leaves.{neighbour_of, request_values, link_rules, resolve_rules, request_rules, down, send, interface_rules}
use Rattle.traffic.specs.Run.{choice_rules_over, indication_rules_over, receive_over, request_rules_over, send_over, interface_rules_over, interface_over}
use Rattle.ipv6.specs.Identifier.{flipped, identifier, link_local, from_mac, mid_of_identifier, mid_of}
use Rattle.edge_rows.specs.Row.{Row, Hold}
use Rattle.edge_rows.specs.Listed.{site}
use Rattle.edge_rows.specs.SeveralRows.{several_rows, EqualSets}
use Rattle.edge_rows.specs.RefusalRows.{refusal_rows}
use Rattle.edge_rows.specs.Rows.{rows, Edges}

-- the test of every row, computed
test : List Row → Bool
test [] = true
test (r ∷ rs) = same r.got r.want && test rs

by_test : (rs : List Row) → T (test rs) → Hold rs
unfolding test
by_test [] h = tt
by_test (r ∷ rs) h = step (same r.got r.want) refl (by_test rs) h
  where
    step : (t : Bool) → same r.got r.want ≡ t → (T (test rs) → Hold rs) → T (t && test rs) → Hold (r ∷ rs)
    step true e f h = (same_true r.got r.want e, f h)
    step false e f h = absurd h

each : Hold rows
unfolding rows several_rows refusal_rows test same all_zero digits number bits good_area normal_by normal same_numbers has_normal same_area agrees holds holds_prefix overlap good_prefix listed any_of all_of good_prefixes holds_any meets overlapping within overlap_within interface_ok settings_values ground_rules settings_rules same_ground overlaps overlaps_itself reaches stored any place area_at interface_at enabled_at slot_rules rules link_after table_after reply start_values cleared fresh start multicast good_hop forbidden packet_rules fault_place flipped identifier link_local from_mac mid_of_identifier mid_of indication_values content_rules choice_rules room_rules indication_rules stop_by by_area by_destination by_source choose receive neighbour_of request_values link_rules resolve_rules request_rules down send interface_rules rules_over reply_over start_rules_over start_over choice_rules_over indication_rules_over receive_over request_rules_over send_over interface_rules_over interface_over
each = by_test rows tt

sets : EqualSets
unfolding EqualSets Among listed number normal_by normal same_numbers has_normal same_area
sets = (
  record { area = refl; prefixes = λ p. (exchange, exchange); interface = refl },
  λ e. apart ((e.prefixes (site 2)).0 (inr (inl refl))),
  λ e. apart ((e.prefixes (site 2)).1 (inr (inl refl))),
)
  where
    exchange : {A B : Type 0} → (A ⊎ (B ⊎ ⊥)) → (B ⊎ (A ⊎ ⊥))
    exchange (inl a) = inr (inl a)
    exchange (inr (inl b)) = inl b
    exchange (inr (inr x)) = absurd x

    apart : ((site 2 ≡ site 1) ⊎ ⊥) → ⊥
    apart (inl e) = omega (arith, ap (λ (p : Prefix). p.high) e)
    apart (inr x) = x

pub edges : Edges
unfolding Edges
edges = (each, sets)
