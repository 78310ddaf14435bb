-- A packet put behind the bytes held, in two steps: its length, and then the packet.
use Prim.Native.Nat.{ℕ, ◌+◌, ◌-◌, ◌≤◌}
use native.Mathlib.Omega.{arith}
use mathlib.Core.Path.{◌≡◌, sym, ◌∙◌, ap}
use mathlib.Core.List.{List, ◌++◌, append_assoc}
use lib.ListN.{length, take, drop, length-append, length-take, length-drop, take-append-drop}
use lib.Seq.{take-append_seam}
use borrow.Author.Tests.{le-ltb}
use Rattle.numbers.specs.declared.NumberRun.{NumberRun}
use Rattle.numbers.specs.Numbers.{number_bytes, written}
use Rattle.frames.specs.Frame.{put}
use Rattle.frames.proofs.Laws.Grow.{grow}
use Rattle.queues.specs.Packets.{packed}
use Rattle.queues.specs.Calls.{laid}
use Rattle.queues.proofs.Laws.Packets.{length-packed}

-- the digits of a number, in the run that they were written into
pub digits_of : (run : NumberRun) (n : ℕ) → run ≡ written n → take run.length run.bytes ≡ number_bytes n
unfolding written
digits_of run n e = ap (λ (r : NumberRun). take r.length r.bytes) e ∙ take-append_seam (number_bytes n) _

pub digits_count : (run : NumberRun) (n : ℕ) → run ≡ written n → run.length ≡ length (number_bytes n)
unfolding written
digits_count run n e = ap (λ (r : NumberRun). r.length) e

-- the queue when the digits stand in it: v is what they are copied from
pub first-laid : (held : ℕ) (queue v after : List ℕ) → held ≤ length queue → after ≡ v ++ drop (length v) (take (length queue - held) (drop held queue))
    → take held queue ++ (after ++ drop (length queue - held) (drop held queue)) ≡ (take held queue ++ v) ++ drop (held + length v) queue
first-laid held queue v after h e =
    grow (take held queue) v queue queue after held (length v) (omega (arith, length-take held queue)) (sym (take-append-drop held queue)) e

-- it is as long as before
pub long_as_before : (held at : ℕ) (queue digits now : List ℕ) → held ≤ length queue → at ≡ held + length digits → at ≤ length queue → now ≡ (take held queue ++ digits) ++ drop at queue → length now ≡ length queue
long_as_before held at queue digits now h a k e =
    ap (λ (l : List ℕ). length l) e
    ∙ rw (length-append (take held queue ++ digits) (drop at queue), length-append (take held queue) digits) (omega (arith, length-take held queue, length-drop at queue))

pub put-fits : (p out : List ℕ) → length p ≤ length out → put p out ≡ p ++ drop (length p) out
unfolding put
put-fits p out h = rw (le-ltb (length out) (length p) h)

-- and when the packet stands behind them
pub second-laid : (held at : ℕ) (queue digits packet now after : List ℕ) → held ≤ length queue → at ≡ held + length digits
    → now ≡ (take held queue ++ digits) ++ drop at queue
    → after ≡ packet ++ drop (length packet) (take (length now - at) (drop at now))
    → take at now ++ (after ++ drop (length now - at) (drop at now)) ≡ ((take held queue ++ digits) ++ packet) ++ drop (at + length packet) queue
second-laid held at queue digits packet now after h a e f =
    grow (take held queue ++ digits) packet queue now after at (length packet) (omega (arith, length-append (take held queue) digits, length-take held queue)) e f

-- the two together are the packet laid
pub is_laid : (held at : ℕ) (queue p : List ℕ) → at ≡ held + length (number_bytes (length p)) → ((take held queue ++ number_bytes (length p)) ++ p) ++ drop (at + length p) queue ≡ laid held queue p
unfolding packed
is_laid held at queue p e =
    let behind : at + length p ≡ held + length (packed p) = omega (arith, length-packed p) in
    rw (append_assoc (take held queue) (number_bytes (length p)) p) (ap (λ (n : ℕ). take held queue ++ (number_bytes (length p) ++ p) ++ drop n queue) behind)

-- what is held with the packet, in the numbers of the code
pub needed : (held : ℕ) (run : NumberRun) (p : List ℕ) → run ≡ written (length p) → held + run.length + length p ≡ held + length (packed p)
needed held run p e = omega (arith, digits_count run (length p) e, length-packed p)
