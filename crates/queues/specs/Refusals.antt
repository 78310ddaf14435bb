-- RULES, Two queues (reply-24, reply-25, reply-37, reply-9): each number exactly under its condition, in the rules' words, and a refusal
-- changes nothing. The conditions speak of lists of packets, and not of the walk.
use Rattle.std.specs.Prelude.{ℕ, ◌+◌, ◌≤◌, ◌<◌, ◌≡◌, ◌↔◌, ◌≢◌, List, length}
use Rattle.replies.specs.Rules.{Exact}
use Rattle.queues.specs.declared.State.{State}
use Rattle.queues.specs.Packets.{packed, Left, Bytes}
use Rattle.queues.specs.Calls.{add_rules, add, next_rules, show, take_next}

-- adding can leave the queue, with so many bytes held
abbrev pub CanBeLeft : ℕ → List ℕ → Type 0
CanBeLeft held queue = (ps : List (List ℕ)) × Left held queue ps

abbrev pub Not : Type 0 → Type 0
Not A = A → ⊥

-- queue-add-refusals
pub record AddRefuses (held : ℕ) (queue p : List ℕ) : Type 0 where
  pub exact : Exact (add_rules held queue p) (add held queue p).number
  pub bad : ((add held queue p).number ≡ 37) ↔ Not (CanBeLeft held queue)
  pub long : ((add held queue p).number ≡ 9) ↔ (CanBeLeft held queue × (1280 < length p))
  pub full : ((add held queue p).number ≡ 24) ↔ (CanBeLeft held queue × (length p ≤ 1280) × (4096 < held + length (packed p)))
  pub done : ((add held queue p).number ≡ 0) ↔ (CanBeLeft held queue × (length p ≤ 1280) × (held + length (packed p) ≤ 4096))
  pub unchanged : (add held queue p).number ≢ 0 → ((add held queue p).held ≡ held) × ((add held queue p).bytes ≡ queue)

-- queue-packet: what a packet needs
pub record Needs (p : List ℕ) : Type 0 where
  pub one : length p < 128 → length (packed p) ≡ 1 + length p
  pub two : 128 ≤ length p → length p ≤ 1280 → length (packed p) ≡ 2 + length p

-- queue-next-refusals
pub record NextRefuses (s : State) (control film : List ℕ) : Type 0 where
  pub exact : Exact (next_rules s control film) (show s control film).number
  pub bad : ((show s control film).number ≡ 37) ↔ Not (CanBeLeft s.control control × CanBeLeft s.film film)
  pub none : ((show s control film).number ≡ 25) ↔ (CanBeLeft s.control control × CanBeLeft s.film film × (s.control ≡ 0) × (s.film ≡ 0))
  pub same : (take_next s control film).reply.number ≡ (show s control film).number
  pub unchanged :
      (show s control film).number ≢ 0 →
      ((take_next s control film).reply.state ≡ s) × ((take_next s control film).control ≡ control) × ((take_next s control film).film ≡ film)

-- every state, every memory of bytes, every packet
unfoldable pub QueueDemand1 : Type 0
QueueDemand1 =
    ((held : ℕ) (queue p : List ℕ) → Bytes queue → AddRefuses held queue p × Needs p)
    × ((s : State) (control film : List ℕ) → Bytes control → Bytes film → NextRefuses s control film)
