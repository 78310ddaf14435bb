-- Where there is room, all of it is written.
use Prim.Native.Nat.{ℕ, ◌≤◌, min}
use mathlib.Core.Path.{◌≡◌, refl}
use native.Mathlib.Omega.{arith}
use mathlib.Core.List.{List, ◌++◌}
use lib.ListN.{length, take, drop}
use lib.Seq.{take_all, take_at}
use borrow.Author.Tests.{le-ltb}
use Rattle.frames.specs.Frame.{put, put_length}

module _ (w buffer : List ℕ) (room : length w ≤ length buffer) where
  pub put_all : put w buffer ≡ w ++ drop (length w) buffer
  unfolding put
  put_all = rw (le-ltb (length buffer) (length w) room)

  pub put_length_lem : put_length w buffer ≡ length w
  unfolding put_length
  put_length_lem = rw (le-ltb (length buffer) (length w) room)

-- a copy into a buffer that has room for the whole of it
pub copied : (w buffer ys : List ℕ) (r : ℕ) → length w ≤ length buffer → r ≡ min (length w) (length buffer) → ys ≡ take (length buffer) w ++ drop (length w) buffer → (r ≡ length w) × (ys ≡ w ++ drop (length w) buffer)
copied w buffer ys r room e f = (omega arith, rw (take_all (length buffer) w room) at f)

-- what a buffer of n bytes, with room for it, then holds up to there is what was copied
pub kept : (w behind ys : List ℕ) (n r : ℕ) → length w ≤ n → r ≡ min (length w) n → ys ≡ take n w ++ behind → take r ys ≡ w
kept w behind ys n r room e f =
    let long : r ≡ length w = omega arith in
    rw (f, long, take_all n w room) (take_at w behind (length w) refl)
