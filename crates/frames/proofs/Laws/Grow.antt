-- A buffer whose first bytes are written, and the rest as it was: writing on behind them.
use Prim.Native.Nat.{ℕ, ◌+◌, ◌-◌, ◌≤◌}
use native.Mathlib.Omega.{arith}
use mathlib.Core.Path.{◌≡◌, ap, ◌∙◌}
use mathlib.Core.List.{List, ◌++◌, append_assoc, append-nil}
use lib.ListN.{length, take, drop, length-drop, drop_of_length-le}
use lib.Seq.{take_all, take_at, drop_at, drop-drop}
use borrow.Rule.Slice.PartMut.{put_mid}
use Rattle.octets.specs.Digits.{digits}
use Rattle.frames.specs.Frame.{frame}

-- the first k bytes are w; a call that was lent the rest put v at its front: the first bytes are w ++ v
pub grow : (w v buffer l ys : List ℕ) (k m : ℕ) → length w ≡ k → l ≡ w ++ drop k buffer → ys ≡ v ++ drop m (take (length l - k) (drop k l)) → take k l ++ (ys ++ drop (length l - k) (drop k l)) ≡ (w ++ v) ++ drop (k + m) buffer
grow w v buffer l ys k m h e f =
    let n : length (drop k l) ≤ length l - k = omega (arith, length-drop k l) in
    let d : drop k l ≡ drop k buffer = ap (λ (x : List ℕ). drop k x) e ∙ drop_at w (drop k buffer) k h in
    let t : take k l ≡ w = ap (λ (x : List ℕ). take k x) e ∙ take_at w (drop k buffer) k h in
    rw (f, drop_of_length-le (drop k l) n, take_all (length l - k) (drop k l) n, t, d, drop-drop m k buffer, append-nil (v ++ drop (k + m) buffer), append_assoc w v (drop (k + m) buffer))

-- the same where all of the next m bytes are written
pub laid : (w v buffer l ys : List ℕ) (k m : ℕ) → length w ≡ k → l ≡ w ++ drop k buffer → ys ≡ v → put_mid k m l ys ≡ (w ++ v) ++ drop (k + m) buffer
laid w v buffer l ys k m h e f =
    rw (e, take_at w (drop k buffer) k h, drop_at w (drop k buffer) k h, f, drop-drop m k buffer, append_assoc w v (drop (k + m) buffer))

pub frame_length_lem : (to from : ℕ) (packet : List ℕ) → length (frame to from packet) ≡ length packet + 14
unfolding frame digits
frame_length_lem to from packet = omega arith
