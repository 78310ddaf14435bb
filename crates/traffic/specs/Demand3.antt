-- Rule demand-3, in its words: what more stop links change for a packet.
use Rattle.std.specs.Prelude.{ℕ, ◌≡◌, ◌≢◌, true, List}
use Rattle.ipv6.specs.Packet.{destination}
use Rattle.links.specs.declared.Settings.{Settings}
use Rattle.links.specs.declared.Slot.{Slot}
use Rattle.links.specs.declared.Table.{Table}
use Rattle.links.specs.Settings.{Same, reaches}
use Rattle.links.specs.Slots.{Has, counted}
use Rattle.links.specs.Calls.{enable, reply}
use Rattle.links.specs.Reached.{Reached}
use Rattle.traffic.specs.Arrives.{Indication, Received, topological, dynamic, stop, at, nowhere, stop_by, by_destination, by_source, index_of, receive, Promised}
use Rattle.traffic.specs.Run.{PromisedOver}
use Rattle.traffic.specs.Replies.{Reception}

-- no stop link enabled in the table has these settings
abbrev pub Lacks : Table → Settings → Type 0
Lacks t s = (k : ℕ) (r : Settings) → Has (counted t) k r → Same r s → ⊥

-- two tables, each reached by calls, with equal settings for their fixed links, where every stop link enabled in the first
-- is enabled in the second with equal settings
pub record Wider (t u : Table) : Type 0 where
  pub most₁ : ℕ
  pub memory₁ : List Slot
  pub first : Reached most₁ memory₁ t
  pub most₂ : ℕ
  pub memory₂ : List Slot
  pub second : Reached most₂ memory₂ u
  pub tvl : t.tvl ≡ u.tvl
  pub dgvl : t.dgvl ≡ u.dgvl
  pub stops : (k : ℕ) (r : Settings) → Has (counted t) k r → (j : ℕ) × (s : Settings) × Has (counted u) j s × Same r s

-- the packet was delivered on the stop link at k, enabled in the table with these settings
pub record OnStop (t : Table) (a : Received) (k : ℕ) (s : Settings) : Type 0 where
  pub done : a.reply.number ≡ 0
  pub link : a.reply.link ≡ index_of (stop k s)
  pub enabled : Has (counted t) k s

-- all but the link's index is the same, byte for byte
pub record SameButIndex (a b : Received) : Type 0 where
  pub number : a.reply.number ≡ b.reply.number
  pub place : a.reply.place ≡ b.reply.place
  pub frame_length : a.reply.length ≡ b.reply.length
  pub source : a.reply.source ≡ b.reply.source
  pub class : a.reply.class ≡ b.reply.class
  pub buffer : a.buffer ≡ b.buffer

-- the source address, and no destination, put the packet on the stop link at k
pub record PutBySource (t : Table) (x : Indication) (k : ℕ) (r : Settings) : Type 0 where
  pub destination : stop_by (by_destination x) (counted t) ≡ nowhere
  pub source : stop_by (by_source x) (counted t) ≡ at k r

-- what the second table answers, beside what the first does: these cases and no other
pub data Follows (t u : Table) (x : Indication) (buffer : List ℕ) (a b : Received) : Type 0 where
  -- if the first refuses, so does the second, alike
  refuses_alike : a.reply.number ≢ 0 → a.buffer ≡ buffer → a ≡ b → Follows t u x buffer a b
  -- a packet on the topological link stays there
  topological_stays : a.reply.link ≡ index_of topological → a ≡ b → Follows t u x buffer a b
  -- a packet on a stop link stays on the link of those settings, byte for byte
  stop_stays : (j k : ℕ) (r s : Settings) → OnStop t a j r → OnStop u b k s → Same r s → SameButIndex a b → Follows t u x buffer a b
  -- only if its source address put it there may it move, and then only to a link that the first lacks and one of whose prefixes holds its destination
  stop_moves : (j k : ℕ) (r s : Settings) → OnStop t a j r → PutBySource t x j r → OnStop u b k s → Lacks t s → reaches s (destination x.packet) ≡ true → Follows t u x buffer a b
  -- a packet on the dynamic link stays, or goes to a link that the first lacks
  dynamic_stays : a.reply.link ≡ index_of dynamic → a ≡ b → Follows t u x buffer a b
  dynamic_moves : (k : ℕ) (s : Settings) → a.reply.link ≡ index_of dynamic → OnStop u b k s → Lacks t s → Follows t u x buffer a b

-- the same indication and equal output buffers
unfoldable pub Demand3 : Type 0
Demand3 = (t u : Table) → Wider t u → (x : Indication) (buffer : List ℕ) → Follows t u x buffer (receive t x buffer) (receive u x buffer)

-- of what two calls of the code return, and of the buffers that they leave: each on a table of either layout
pub data Returned (t : Table) (x : Indication) (buffer : List ℕ) (r : Reception) (b : List ℕ) : Type 0 where
  by_value : Promised t x buffer r b → Returned t x buffer r b
  over_run : PromisedOver t x buffer r b → Returned t x buffer r b

unfoldable pub Demand3OfCalls : Type 0
Demand3OfCalls =
    (t u : Table) → Wider t u → (x : Indication) (buffer : List ℕ)
    → (r₁ r₂ : Reception) (b₁ b₂ : List ℕ) → Returned t x buffer r₁ b₁ → Returned u x buffer r₂ b₂
    → Follows t u x buffer (record { reply = r₁; buffer = b₁ }) (record { reply = r₂; buffer = b₂ })

-- a stop switched on at noon: an enable, whether it is refused or not, leaves a wider table, so that what demand 3 says holds
-- between the table before it and the table behind it
unfoldable pub SwitchedOn : Type 0
SwitchedOn =
    (most : ℕ) (memory : List Slot) (t : Table) → Reached most memory t → (s : Settings)
    → Wider t (reply t (enable s)).table
    × ((x : Indication) (buffer : List ℕ) → Follows t (reply t (enable s)).table x buffer (receive t x buffer) (receive (reply t (enable s)).table x buffer))
