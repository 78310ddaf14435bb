-- `queue_calls::check_add` meets its contract.
use Prim.Native.Nat.{ℕ, ◌+◌, ◌≤◌}
use native.Mathlib.Omega.{arith}
use mathlib.Core.Path.{◌≡◌, sym, ◌∙◌}
use mathlib.Core.Bool.{true, false}
use mathlib.Core.List.{List}
use lib.ListN.{length}
use borrow.Author.Tests.{lt-ltb, le-ltb}
use Rattle.numbers.specs.Numbers.{number_bytes}
use Rattle.queues.specs.Packets.{packed, good}
use Rattle.queues.proofs.Laws.Packets.{length-packed}
use Rattle.queue_calls.proofs.Laws.Good.{good-fits}
use Rattle.queue_calls.proofs.Laws.Refused.{by_room, few-digits}
use Rattle.queue_calls.proofs.check_add.Goals as goal

-- of a good queue, and a packet that is not too long
module _ (held : ℕ) (queue p : List ℕ) (digits : ℕ) (is : good held queue ≡ true) (short : length p ≤ 1280) (count : digits ≡ length (number_bytes (length p))) where
  few : held + digits ≤ 4098
  few =
      let held_few : held ≤ 4096 = (good-fits held queue is).few in
      omega (arith, few-digits p short)

  needed : held + length (packed p) ≡ held + digits + length p
  needed = omega (arith, length-packed p)

pub overflow_add-held : goal.overflow_add-held
overflow_add-held c =
    let args = c.args in
    omega (arith, few args.held args.queue.now args.packet.now args.digits (sym c.is_good.ensures ∙ c.if-not-is_good.false) c.if-packet-gt-LONGEST.false c.requires)

pub overflow_add-held-2 : goal.overflow_add-held-2
overflow_add-held-2 c =
    let args = c.args in
    omega (arith, few args.held args.queue.now args.packet.now args.digits (sym c.is_good.ensures ∙ c.if-not-is_good.false) c.if-packet-gt-LONGEST.false c.requires, c.if-packet-gt-LONGEST.false)

pub returns-then-held-digits-gt-SIZE : goal.returns-then-held-digits-gt-SIZE
returns-then-held-digits-gt-SIZE c =
    let args = c.args in
    let is = sym c.is_good.ensures ∙ c.if-not-is_good.false in
    let need = needed args.held args.queue.now args.packet.now args.digits is c.if-packet-gt-LONGEST.false c.requires in
    by_room args.held args.queue.now args.packet.now true is (le-ltb 1280 (length args.packet.now) c.if-packet-gt-LONGEST.false) (lt-ltb 4096 (args.held + length (packed args.packet.now)) (omega (arith, need)))

pub returns : goal.returns
returns c =
    let args = c.args in
    let is = sym c.is_good.ensures ∙ c.if-not-is_good.false in
    let need = needed args.held args.queue.now args.packet.now args.digits is c.if-packet-gt-LONGEST.false c.requires in
    by_room args.held args.queue.now args.packet.now false is (le-ltb 1280 (length args.packet.now) c.if-packet-gt-LONGEST.false) (le-ltb 4096 (args.held + length (packed args.packet.now)) (omega (arith, need)))
