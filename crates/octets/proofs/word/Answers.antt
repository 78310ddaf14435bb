-- `octets::word`: eight bytes as the library reads them, or as many as there are.
use native.Mathlib.Omega.{arith}
use mathlib.Core.Path.{◌≡◌, sym, ◌∙◌, ap}
use Prim.Native.Nat.{ℕ}
use mathlib.Core.List.{List}
use lib.Dec.{lit≤}
use lib.ListN.{take, drop, length, length-take}
use lib.Seq.{take-take, take_all}
use Rattle.std.specs.Int.{w64, from_be_bytes}
use Rattle.octets.specs.Digits.{big_endian, number}
use Rattle.octets.proofs.Laws.Runs.{spread, part_spread}
use Rattle.octets.proofs.word.Goals as goal

-- the library's number of eight bytes
read_by : (l : List ℕ) → length l ≡ 8 → from_be_bytes w64 l ≡ big_endian l
unfolding number
read_by l eight =
    let each : l ≡ spread l 0 8 = sym (take_all 8 l (omega arith)) ∙ part_spread l 0 8 (omega arith) in
    let sum : from_be_bytes w64 l ≡ big_endian (spread l 0 8) = omega arith in
    sum ∙ ap big_endian (sym each)

pub returns-in-Some : goal.returns-in-Some
returns-in-Some c =
    let args = c.args in
    let part = c.part-b.result.now in
    let all : c.in-Some.all.now ≡ take 8 (drop args.at args.s.now) = c.in-Some.ensures.cases.same ∙ ap (take 8) c.part-b.ensures ∙ take-take 8 8 (drop args.at args.s.now) (lit≤ tt) in
    let long : length c.in-Some.all.now ≡ 8 = rw (c.in-Some.ensures.cases.same, length-take) (omega (arith, c.in-Some.ensures.cases.enough)) in
    c.from_be_bytes.ensures ∙ read_by c.in-Some.all.now long ∙ ap big_endian all
