-- What the next hop of a request decides.
use Rattle.std.specs.Prelude.{Option}
use Prim.Native.Nat.{ℕ, zero, suc}
use mathlib.Core.Path.{◌≡◌, refl, sym, ◌∙◌, ap}
use mathlib.Core.Logic.{◌≢◌}
use mathlib.Core.Bool.{Bool, true, false}
use mathlib.Core.List.{List, ◌++◌}
use lib.ListN.{length}
use Rattle.octets.proofs.Laws.Tests.{clash}
use Rattle.replies.specs.Rules.{Rule, NoneHolds, refusal}
use Rattle.replies.proofs.Laws.Refusals.{none_right}
use Rattle.ipv6.specs.Address.{multicast, good_hop}
use Rattle.ipv6.specs.Packet.{destination, packet_rules}
use Rattle.ipv6.proofs.Laws.Hops.{good_hops}
use Rattle.links.specs.declared.Named.{Named}
use Rattle.links.specs.declared.Table.{Table}
use Rattle.links.specs.Index.{named}
use Rattle.traffic.specs.Leaves.{Request, Down, to_neighbour, request_values, resolve_rules, link_rules, request_rules, down, sending, send, send_named}
use Rattle.traffic.specs.NextHop.{Nobodys, other_length, unspecified, loopback, many, by_hop, of_packet, NextHops}
use Rattle.traffic.specs.Demands.{Demand1}
use Rattle.traffic.proofs.Laws.Demands.{demand_1, sends}
use Rattle.traffic.proofs.Laws.Send.{neighbour_nobody, many-down, one_down}

not_good : (hop : List ℕ) → Nobodys hop → good_hop hop ≡ false
not_good hop n = go (good_hop hop) refl n
  where
    go : (b : Bool) → good_hop hop ≡ b → Nobodys hop → good_hop hop ≡ false
    go false g n = g
    go true g (other_length h) = absurd (h ((good_hops hop).0 g).0)
    go true g (unspecified h) = absurd (((good_hops hop).0 g).1 h)
    go true g (loopback h) = absurd (((good_hops hop).0 g).2 h)
    go true g (many h) = absurd (((good_hops hop).0 g).3 h)

-- what is sent down with this number, by one next hop and by another
alike : (q : Request) (hop : List ℕ) (n : ℕ) (l : Named) → down l (by_hop q hop) ≡ down l q → sending n l (by_hop q hop) ≡ sending n l q
alike q hop zero l e = ap (λ (d : Down). record { number = 0; place = 0; transport = d.transport; destination = d.destination; class = q.class; length = length q.packet }) e
alike q hop (suc n) l e = refl

-- next hops that are not good are answered alike
pub nobody-alike : (l : Named) (q : Request) (hop : List ℕ) → good_hop q.next_hop ≡ false → good_hop hop ≡ false → send_named l (by_hop q hop) ≡ send_named l q
unfolding send_named request_values link_rules resolve_rules
nobody-alike l q hop e f =
    let now-none = neighbour_nobody l.interface q.neighbour q.next_hop e in
    let then-none = neighbour_nobody l.interface q.neighbour hop f in
    let rules : request_values (by_hop q hop) ++ link_rules l (by_hop q hop) ≡ request_values q ++ link_rules l q = rw (now-none, then-none) in
    ap (λ (rs : List Rule). sending (refusal rs) l (by_hop q hop)) rules
    ∙ alike q hop (refusal (request_values q ++ link_rules l q)) l (same-down (multicast (destination q.packet)) refl)
  where
    same-down : (b : Bool) → multicast (destination q.packet) ≡ b → down l (by_hop q hop) ≡ down l q
    same-down true e = many-down l (by_hop q hop) e ∙ sym (many-down l q e)
    same-down false one =
        one_down l (by_hop q hop) one
        ∙ ap (λ (m : Option ℕ). record { transport = 1; destination = to_neighbour m }) (neighbour_nobody l.interface q.neighbour hop f ∙ sym (neighbour_nobody l.interface q.neighbour q.next_hop e))
        ∙ sym (one_down l q one)

module _ (t : Table) (q : Request) where
  -- a request that is done has passed every rule
  unresolved : (send t q).number ≡ 0 → NoneHolds (resolve_rules (named t q.index) q)
  unfolding Demand1 request_rules link_rules
  unresolved e =
      let l = named t q.index in
      let none = none_right (request_values q) (link_rules l q) ((demand_1.4 t q).exact.done.0 e) in
      none_right (packet_rules q.packet) (resolve_rules l q) none.1

  nobody : multicast (destination q.packet) ≡ false → Nobodys q.next_hop → (send t q).number ≢ 0
  unfolding resolve_rules
  nobody one n e = clash (rw (one, neighbour_nobody (named t q.index).interface q.neighbour q.next_hop (not_good q.next_hop n)) refl) (unresolved e).1.0

  ignored : multicast (destination q.packet) ≡ true → (hop : List ℕ) → send t (by_hop q hop) ≡ send t q
  unfolding send request_rules request_values link_rules resolve_rules
  ignored e hop =
      let l = named t q.index in
      let rules : request_rules t (by_hop q hop) ≡ request_rules t q = rw e in
      ap (λ (rs : List Rule). sending (refusal rs) l (by_hop q hop)) rules ∙ alike q hop (refusal (request_rules t q)) l (many-down l (by_hop q hop) e ∙ sym (many-down l q e))

  far_end_lem : (packet : List ℕ) → multicast (destination q.packet) ≡ false → multicast (destination packet) ≡ false → (send t q).number ≡ 0
      → (send t (of_packet q packet)).number ≡ 0 → (send t (of_packet q packet)).destination ≡ (send t q).destination
  far_end_lem packet one other e f =
      let l = named t q.index in
      (sends t (of_packet q packet) f).destination ∙ ap (λ (d : Down). d.destination) (one_down l (of_packet q packet) other ∙ sym (one_down l q one)) ∙ sym (sends t q e).destination

  pub next_hops : NextHops t q
  next_hops = record { nobody = nobody; ignored = ignored; far_end = far_end_lem }
