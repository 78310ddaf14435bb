-- What a request answers, by the number that its rules give.
use Rattle.std.specs.Prelude.{None, Option, Some}
use Prim.Native.Nat.{ℕ, zero, suc, ◌<◌}
use native.Mathlib.Omega.{arith}
use mathlib.Core.Path.{◌≡◌, refl, sym, ◌∙◌, ap}
use mathlib.Core.Logic.{◌≢◌}
use mathlib.Core.Bool.{Bool, true, false, cond, not, ◌&&◌, ◌||◌}
use mathlib.Core.List.{List, [], ◌++◌}
use lib.Dec.{eqb, lit<}
use lib.ListN.{length}
use Rattle.replies.specs.Rules.{◌if◌, ◌then◌, refusal}
use Rattle.replies.specs.declared.Refusal.{Refusal}
use Rattle.replies.specs.Numbers.{number_of}
use Rattle.replies.proofs.Laws.Numbers.{number_positive, first_refuses}
use Rattle.replies.proofs.Laws.Refusals.{Numbered, numbered_append, refusal-next, by_first, refusal_past}
use Rattle.ipv6.specs.Address.{multicast, good_hop}
use Rattle.ipv6.specs.Packet.{destination, packet_rules}
use Rattle.ipv6.specs.Identifier.{mid_of}
use Rattle.ipv6.proofs.Laws.Identifier.{bad_hop_without_mid}
use Rattle.ipv6.proofs.Laws.Packet.{packet_numbered}
use Rattle.links.specs.declared.Interface.{Interface}
use Rattle.links.specs.declared.Named.{Named}
use Rattle.links.specs.declared.Table.{Table}
use Rattle.links.specs.Index.{named}
use Rattle.traffic.specs.declared.Destination.TheVariants.{Mid, Nothing}
use Rattle.traffic.specs.Leaves.{Request, neighbour_of, within, to_neighbour, is_unset, request_values, resolve_rules, link_rules, request_rules, down, not_sent, sending, send, send_named, send_on, interface_rules}

pub values_numbered : (q : Request) → Numbered (request_values q)
unfolding request_values
values_numbered q = (lit< tt, tt)

pub link_numbered : (l : Named) (q : Request) → Numbered (link_rules l q)
unfolding link_rules resolve_rules
link_numbered l q =
    (lit< tt, numbered_append (packet_rules q.packet) (resolve_rules l q) (packet_numbered q.packet) (lit< tt, (lit< tt, tt)))

pub request_numbered : (t : Table) (q : Request) → Numbered (request_rules t q)
unfolding request_rules
request_numbered t q = numbered_append (request_values q) (link_rules (named t q.index) q) (values_numbered q) (link_numbered (named t q.index) q)

pub interface_numbered : (enabled : Bool) → Numbered (interface_rules enabled)
unfolding interface_rules
interface_numbered enabled = (lit< tt, tt)

-- what is sent on a link, by the number that the rules give
pub sending-refused : (l : Named) (q : Request) (m n : ℕ) → 0 < n → m ≡ n → sending m l q ≡ not_sent n q.packet
sending-refused l q m zero h e = absurd (omega arith)
sending-refused l q m (suc n) h e = ap (λ (k : ℕ). sending k l q) e

pub sending-done : (l : Named) (q : Request) (m : ℕ) → m ≡ 0
    → sending m l q ≡ record { number = 0; place = 0; transport = (down l q).transport; destination = (down l q).destination; class = q.class; length = length q.packet }
sending-done l q m e = ap (λ (k : ℕ). sending k l q) e

-- a request on a link, step by step
module _ (l : Named) (q : Request) where
  -- refused by the first of its rules that holds, or sent
  pub on_refused : (e : Refusal) → number_of e ≡ refusal (link_rules l q) → send_on l q ≡ not_sent (number_of e) q.packet
  unfolding send_on
  on_refused e n = sending-refused l q (refusal (link_rules l q)) (number_of e) (number_positive e) (sym n)

  pub on_done : 0 ≡ refusal (link_rules l q) → send_on l q ≡ sending 0 l q
  unfolding send_on
  on_done n = ap (λ (m : ℕ). sending m l q) (sym n)

  pub on_disabled : l.enabled ≡ false → send_on l q ≡ not_sent 7 q.packet
  unfolding send_on link_rules
  on_disabled e = rw e

  on_enabled : l.enabled ≡ true → refusal (link_rules l q) ≡ refusal (packet_rules q.packet ++ resolve_rules l q)
  unfolding link_rules
  on_enabled on = refusal-next (7 if not l.enabled then []) (packet_rules q.packet ++ resolve_rules l q) (ap not on, tt)

  pub on_bad-packet : (n : ℕ) → l.enabled ≡ true → n ≡ refusal (packet_rules q.packet) → n ≢ 0 → send_on l q ≡ not_sent n q.packet
  unfolding send_on
  on_bad-packet n on e h =
      sending-refused l q (refusal (link_rules l q)) n (omega arith) (on_enabled on ∙ sym (by_first (packet_rules q.packet) (resolve_rules l q) n e h))

  pub on_good-packet : l.enabled ≡ true → refusal (packet_rules q.packet) ≡ 0 → send_on l q ≡ sending (refusal (resolve_rules l q)) l q
  unfolding send_on
  on_good-packet on e =
      ap (λ (m : ℕ). sending m l q) (on_enabled on ∙ refusal_past (packet_rules q.packet) (resolve_rules l q) (packet_numbered q.packet) e)

  module _ (many : multicast (destination q.packet) ≡ true) where
    pub many_without_area : (eqb q.index.0 1 && is_unset l.area) ≡ true → sending (refusal (resolve_rules l q)) l q ≡ not_sent 11 q.packet
    unfolding resolve_rules
    many_without_area e = rw (many, e)

    pub many-sent : (eqb q.index.0 1 && is_unset l.area) ≡ false → sending (refusal (resolve_rules l q)) l q ≡ sending 0 l q
    unfolding resolve_rules
    many-sent e = rw (many, e)

    pub many-down : down l q ≡ cond (eqb q.index.0 0) (record { transport = 4; destination = Nothing }) (record { transport = 3; destination = within l.area })
    unfolding down
    many-down = rw many

  module _ (one : multicast (destination q.packet) ≡ false) where
    pub one_unknown : neighbour_of l.interface q.neighbour q.next_hop ≡ None → sending (refusal (resolve_rules l q)) l q ≡ not_sent 12 q.packet
    unfolding resolve_rules
    one_unknown e = rw (one, e)

    pub one_down : down l q ≡ record { transport = 1; destination = to_neighbour (neighbour_of l.interface q.neighbour q.next_hop) }
    unfolding down
    one_down = rw one

    pub one-sent : (m : ℕ) → neighbour_of l.interface q.neighbour q.next_hop ≡ Some m
        → sending (refusal (resolve_rules l q)) l q ≡ record { number = 0; place = 0; transport = 1; destination = Mid m; class = q.class; length = length q.packet }
    unfolding resolve_rules
    one-sent m e = rw (one, e) (rw (one_down, e))

-- the neighbour: derived, or given where the next hop is good
module _ (f : Interface) (given : Option ℕ) (hop : List ℕ) where
  pub neighbour_derived : (eqb f.kind 3 || eqb f.flag 1) ≡ true → neighbour_of f given hop ≡ mid_of hop
  unfolding neighbour_of
  neighbour_derived e = rw e (go (good_hop hop) refl)
    where
      go : (b : Bool) → good_hop hop ≡ b → cond b (mid_of hop) None ≡ mid_of hop
      go true g = refl
      go false g = sym (bad_hop_without_mid hop g)

  pub neighbour_given : (eqb f.kind 3 || eqb f.flag 1) ≡ false → good_hop hop ≡ true → neighbour_of f given hop ≡ given
  unfolding neighbour_of
  neighbour_given e g = rw (e, g)

  pub neighbour_nobody : good_hop hop ≡ false → neighbour_of f given hop ≡ None
  unfolding neighbour_of
  neighbour_nobody g = rw g

-- its values are asked first, and then what the link decides
module _ (l : Named) (q : Request) where
  pub named_refused : (e : Refusal) → number_of e ≡ refusal (request_values q) → send_named l q ≡ not_sent (number_of e) q.packet
  unfolding send_named
  named_refused e n =
      sending-refused l q (refusal (request_values q ++ link_rules l q)) (number_of e) (number_positive e)
      (sym (first_refuses (request_values q) (link_rules l q) e n))

  pub named-refused : (n : ℕ) → n ≡ refusal (request_values q) → n ≢ 0 → send_named l q ≡ not_sent n q.packet
  unfolding send_named
  named-refused n e h =
      sending-refused l q (refusal (request_values q ++ link_rules l q)) n (omega arith) (sym (by_first (request_values q) (link_rules l q) n e h))

  pub named_on : 0 ≡ refusal (request_values q) → send_named l q ≡ send_on l q
  unfolding send_named send_on
  named_on n = ap (λ (m : ℕ). sending m l q) (refusal_past (request_values q) (link_rules l q) (values_numbered q) (sym n))

-- a request is sent on the link that its index names, whatever the layout of the table
pub sent-named : (t : Table) (q : Request) → send t q ≡ send_named (named t q.index) q
unfolding send request_rules send_named
sent-named t q = refl
