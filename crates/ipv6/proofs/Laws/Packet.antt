-- The packet's rules: each has a number; and the place that a number gives.
use Prim.Native.Nat.{ℕ}
use mathlib.Core.Path.{ap}
use mathlib.Core.List.{List}
use lib.Dec.{lit<}
use borrow.Author.Tests.{ne_eqb}
use Rattle.replies.proofs.Laws.Refusals.{Numbered}
use Rattle.ipv6.specs.Packet.{packet_rules, fault_place, Placed}

pub packet_numbered : (p : List ℕ) → Numbered (packet_rules p)
unfolding packet_rules
packet_numbered p = (lit< tt, (lit< tt, (lit< tt, (lit< tt, (lit< tt, tt)))))

pub placed : (p : List ℕ) (n : ℕ) → Placed p n (fault_place n p)
unfolding fault_place
placed p n = record {
  short = λ e. ap (λ (m : ℕ). fault_place m p) e;
  other_version = λ e. ap (λ (m : ℕ). fault_place m p) e;
  length_field = λ e. ap (λ (m : ℕ). fault_place m p) e;
  other = λ h _ k. rw (ne_eqb n 20 h, ne_eqb n 22 k);
}
