-- `frames::write_frame` meets its contract.
use Prim.Native.Nat.{ℕ, ◌+◌, ◌≤◌, ◌<◌}
use native.Mathlib.Nat.{add_comm}
use mathlib.Core.Path.{◌≡◌, refl, sym, ◌∙◌, ap}
use mathlib.Core.List.{List, [], ◌∷◌, ◌++◌}
use lib.ListN.{length, drop}
use borrow.Author.Tests.{lt-ltb, le-ltb}
use Rattle.octets.specs.Digits.{digits, mac}
use Rattle.frames.specs.Frame.{frame, put, put_length}
use Rattle.frames.proofs.Laws.Grow.{grow, laid, frame_length_lem}
use Rattle.frames.proofs.write_frame.Goals as goal

pub returns-then-out-whole : goal.returns-then-out-whole
unfolding put put_length
returns-then-out-whole c =
    let args = c.args in
    let short : length args.out.now < length (frame args.to args.from args.packet.now) = rw (frame_length_lem args.to args.from args.packet.now) c.if-out-whole.true in
    rw (lt-ltb _ _ short) (refl, refl)

pub returns : goal.returns
unfolding put put_length frame digits
returns c =
    let args = c.args in
    let out = args.out.now in
    let p = args.packet.now in
    let room : length (frame args.to args.from p) ≤ length out = rw (frame_length_lem args.to args.from p) c.if-out-whole.false in
    let one = ap (λ (l : List ℕ). l ++ drop 6 out) (c.copy_from_slice.ensures.after ∙ c.mac_of.ensures) in
    let two = laid (mac args.to) (mac args.from) out _ _ 6 6 refl one (c.copy_from_slice-2.ensures.after ∙ c.mac_of-2.ensures) in
    let three = laid (mac args.to ++ mac args.from) (0x86 ∷ 0xdd ∷ []) out _ _ 12 2 refl two c.copy_from_slice-3.ensures.after in
    let four = grow ((mac args.to ++ mac args.from) ++ 0x86 ∷ 0xdd ∷ []) p out _ _ 14 (length p) refl three c.put_packet.ensures in
    let long : length (frame args.to args.from p) ≡ 14 + length p = frame_length_lem args.to args.from p ∙ add_comm (length p) 14 in
    rw (le-ltb _ _ room) (
      sym (frame_length_lem args.to args.from p),
      four ∙ ap (λ (n : ℕ). frame args.to args.from p ++ drop n out) (sym long),
    )
