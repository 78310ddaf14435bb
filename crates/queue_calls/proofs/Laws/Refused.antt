-- What refuses adding to a good queue a packet that is not too long: whether there is room.
use Prim.Native.Nat.{ℕ, ◌+◌, ◌≤◌}
use native.Mathlib.Omega.{arith}
use mathlib.Core.Path.{◌≡◌, refl}
use mathlib.Core.Bool.{Bool, true, false}
use mathlib.Core.List.{List, []}
use lib.Dec.{ltb}
use lib.ListN.{length}
use borrow.Author.Tests.{ltb-true, ltb-false}
use Rattle.replies.specs.Rules.{◌if◌, ◌then◌, refusal}
use Rattle.numbers.specs.Numbers.{number_bytes}
use Rattle.queues.specs.Packets.{packed, good}
use Rattle.queues.specs.Calls.{add_rules}
use Rattle.queues.proofs.Laws.Packets.{length-packed}
use Rattle.queues.proofs.Laws.Refusals.{packet_needs}

pub by_room : (held : ℕ) (queue p : List ℕ) (full : Bool) → good held queue ≡ true → ltb 1280 (length p) ≡ false → ltb 4096 (held + length (packed p)) ≡ full
    → refusal (24 if full then []) ≡ refusal (add_rules held queue p)
by_room held queue p full e f g = rw (e, f, g)

-- the length of a packet that is not too long takes one byte or two
pub few-digits : (p : List ℕ) → length p ≤ 1280 → length (number_bytes (length p)) ≤ 2
few-digits p h = go (ltb (length p) 128) refl
  where
    go : (small : Bool) → ltb (length p) 128 ≡ small → length (number_bytes (length p)) ≤ 2
    go true e = omega (arith, (packet_needs p).one (ltb-true (length p) 128 e), length-packed p)
    go false e = omega (arith, (packet_needs p).two (ltb-false (length p) 128 e) h, length-packed p)
