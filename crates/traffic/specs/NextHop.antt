-- Rule next-hop: what the next hop of a request decides, for every table, and in the rules' numbers.
use Rattle.std.specs.Prelude.{ℕ, ◌≡◌, ◌≢◌, true, false, List, [], ◌∷◌, ◌++◌, length, get_or, replicate}
use Rattle.ipv6.specs.Address.{multicast}
use Rattle.ipv6.specs.Packet.{destination}
use Rattle.links.specs.declared.Table.{Table}
use Rattle.traffic.specs.Leaves.{Request, send}

-- what can be nobody's address: no 16 bytes, ::, ::1, multicast
pub data Nobodys (hop : List ℕ) : Type 0 where
  other_length : length hop ≢ 16 → Nobodys hop
  unspecified : hop ≡ replicate 16 0 → Nobodys hop
  loopback : hop ≡ replicate 15 0 ++ 1 ∷ [] → Nobodys hop
  many : get_or hop 0 0 ≡ 0xff → Nobodys hop

abbrev pub by_hop : Request → List ℕ → Request
by_hop q hop = record { index = q.index; class = q.class; neighbour = q.neighbour; next_hop = hop; packet = q.packet }

abbrev pub of_packet : Request → List ℕ → Request
of_packet q packet = record { index = q.index; class = q.class; neighbour = q.neighbour; next_hop = q.next_hop; packet = packet }

-- a unicast packet is sent by no such next hop, with the MID derived or given; a multicast packet is answered alike whatever the next
-- hop is; and the far end decides nothing: two unicast packets that are sent by one next hop go to one neighbour
pub record NextHops (t : Table) (q : Request) : Type 0 where
  pub nobody : multicast (destination q.packet) ≡ false → Nobodys q.next_hop → (send t q).number ≢ 0
  pub ignored : multicast (destination q.packet) ≡ true → (hop : List ℕ) → send t (by_hop q hop) ≡ send t q
  pub far_end :
      (packet : List ℕ) →
      multicast (destination q.packet) ≡ false →
      multicast (destination packet) ≡ false →
      (send t q).number ≡ 0 →
      (send t (of_packet q packet)).number ≡ 0 →
      (send t (of_packet q packet)).destination ≡ (send t q).destination
