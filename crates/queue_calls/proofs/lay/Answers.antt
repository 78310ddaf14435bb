-- `queue_calls::lay` meets its contract.
use Prim.Native.Nat.{ℕ, ◌+◌, ◌-◌, ◌≤◌, min}
use native.Mathlib.Omega.{arith}
use mathlib.Core.Path.{◌≡◌, sym, ◌∙◌, ap}
use mathlib.Core.List.{List, ◌++◌}
use lib.ListN.{length, take, drop, length-take, length-drop}
use Rattle.numbers.specs.declared.NumberRun.{NumberRun}
use Rattle.numbers.specs.Numbers.{number_bytes, written}
use Rattle.frames.proofs.Laws.Put.{copied}
use Rattle.queues.specs.Packets.{packed}
use Rattle.queues.proofs.Laws.Packets.{length-packed}
use Rattle.queue_calls.proofs.Laws.Laid.{digits_of, digits_count, first-laid, long_as_before, put-fits, second-laid, is_laid}
use Rattle.queue_calls.proofs.lay.Goals as goal

-- there is room for digits and packet
room : (held : ℕ) (run : NumberRun) (queue p : List ℕ) → run ≡ written (length p) → held + length (packed p) ≤ length queue → held + run.length + length p ≤ length queue
room held run queue p e h = omega (arith, digits_count run (length p) e, length-packed p)

-- the queue with the digits in it: from is what they are copied from
with-digits : (held : ℕ) (run : NumberRun) (queue p from after : List ℕ) (r : ℕ) → run ≡ written (length p) → held + length (packed p) ≤ length queue
    → from ≡ take run.length run.bytes
    → r ≡ min (length from) (length (take (length queue - held) (drop held queue)))
    → after ≡ take (length (take (length queue - held) (drop held queue))) from ++ drop (length from) (take (length queue - held) (drop held queue))
    → take held queue ++ (after ++ drop (length queue - held) (drop held queue)) ≡ (take held queue ++ number_bytes (length p)) ++ drop (held + run.length) queue
with-digits held run queue p from after r e h f g k =
    let v = number_bytes (length p) in
    let count = digits_count run (length p) e in
    let fits = room held run queue p e h in
    let same : from ≡ v = f ∙ digits_of run (length p) e in
    let lent = take (length queue - held) (drop held queue) in
    let long : length v ≤ length lent = omega (arith, length-take (length queue - held) (drop held queue), length-drop held queue) in
    let all : after ≡ v ++ drop (length v) lent = (copied v lent after r long (rw same at g) (rw same at k)).1 in
    first-laid held queue v after (omega arith) all ∙ ap (λ (n : ℕ). (take held queue ++ v) ++ drop (held + n) queue) (sym count)

pub overflow_add-at : goal.overflow_add-at
overflow_add-at c = omega (arith, room c.args.held c.args.run c.args.queue.now c.args.packet.now c.requires.0 c.requires.1)

pub slice_bounds-write_packet-count : goal.slice_bounds-write_packet-count
slice_bounds-write_packet-count c =
    let args = c.args in
    let queue = args.queue.now in
    let p = args.packet.now in
    let count = digits_count args.run (length p) c.requires.0 in
    let space = room args.held args.run queue p c.requires.0 c.requires.1 in
    let size = long_as_before args.held (args.held + args.run.length) queue (number_bytes (length p)) _ (omega arith) (omega arith) (omega arith) (with-digits args.held args.run queue p _ _ _ c.requires.0 c.requires.1 c.as_bytes.ensures c.copy.ensures.0 c.copy.ensures.1) in
    omega (arith, size, space)

pub slice_bounds-write_packet-start : goal.slice_bounds-write_packet-start
slice_bounds-write_packet-start c =
    let args = c.args in
    let queue = args.queue.now in
    let p = args.packet.now in
    let count = digits_count args.run (length p) c.requires.0 in
    let space = room args.held args.run queue p c.requires.0 c.requires.1 in
    let size = long_as_before args.held (args.held + args.run.length) queue (number_bytes (length p)) _ (omega arith) (omega arith) (omega arith) (with-digits args.held args.run queue p _ _ _ c.requires.0 c.requires.1 c.as_bytes.ensures c.copy.ensures.0 c.copy.ensures.1) in
    omega (arith, size, space)

pub returns : goal.returns
returns c =
    let args = c.args in
    let queue = args.queue.now in
    let p = args.packet.now in
    let at = args.held + args.run.length in
    let v = number_bytes (length p) in
    let count : args.run.length ≡ length v = digits_count args.run (length p) c.requires.0 in
    let space = room args.held args.run queue p c.requires.0 c.requires.1 in
    let now = take args.held queue ++ (c.copy.new.to ++ drop (length queue - args.held) (drop args.held queue)) in
    let digits_in : now ≡ (take args.held queue ++ v) ++ drop at queue = with-digits args.held args.run queue p _ _ _ c.requires.0 c.requires.1 c.as_bytes.ensures c.copy.ensures.0 c.copy.ensures.1 in
    let size : length now ≡ length queue = long_as_before args.held at queue v now (omega arith) (omega arith) (omega arith) digits_in in
    let lent = take (length now - at) (drop at now) in
    let fits : length p ≤ length lent = omega (arith, length-take (length now - at) (drop at now), length-drop at now) in
    let put_in : c.write_packet.new.out ≡ p ++ drop (length p) lent = c.write_packet.ensures.1 ∙ put-fits p lent fits in
    second-laid args.held at queue v p now c.write_packet.new.out (omega arith) (omega arith) digits_in put_in ∙ is_laid args.held at queue p (omega arith)
