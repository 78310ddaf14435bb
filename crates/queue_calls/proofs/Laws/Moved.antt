-- Held bytes without the first of them, as a part of the queue.
use Prim.Native.Nat.{ℕ, ◌+◌, ◌-◌, ◌≤◌}
use native.Mathlib.Omega.{arith}
use mathlib.Core.Path.{◌≡◌, sym, ◌∙◌, ap}
use mathlib.Core.List.{List}
use lib.ListN.{length, take, drop, length-take, length-drop}
use lib.Seq.{take-add, drop_at}

pub held-behind : (n held : ℕ) (queue : List ℕ) → n ≤ held → held ≤ length queue → take (held - n) (drop n queue) ≡ drop n (take held queue)
held-behind n held queue h k =
    let all : n + (held - n) ≡ held = omega arith in
    let front : length (take n queue) ≡ n = omega (arith, length-take n queue) in
    sym (ap (λ (m : ℕ). drop n (take m queue)) (sym all) ∙ ap (λ (l : List ℕ). drop n l) (take-add n (held - n) queue) ∙ drop_at (take n queue) (take (held - n) (drop n queue)) n front)

pub behind-length : (n held : ℕ) (queue : List ℕ) → held ≤ length queue → length (take (held - n) (drop n queue)) ≡ held - n
behind-length n held queue k = omega (arith, length-take (held - n) (drop n queue), length-drop n queue)
