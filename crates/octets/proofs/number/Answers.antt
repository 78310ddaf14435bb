-- `octets::number`: the loop has read the number of the bytes passed, which is below the power of 256 that their count gives.
use native.Mathlib.Nat.{pow-suc, pow-le-pow_right}
use native.Mathlib.Numerals.{add-one}
use native.Mathlib.Omega.{arith}
use mathlib.Core.Path.{◌≡◌, refl, ◌∙◌}
use lib.Dec.{lit<}
use lib.ListN.{length, take, get_or}
use lib.Seq.{take-suc, take-length}
use Rattle.octets.specs.Digits.{number}
use Rattle.octets.proofs.Laws.Digits.{number_snoc}
use Rattle.octets.proofs.number.Goals as goal

pub overflow_mul-n : goal.overflow_mul-n
overflow_mul-n c =
    let few = pow-le-pow_right {n = 256} (lit< tt) {i = c.loop-b.b-index} {j = 7} (omega arith) in
    omega arith

pub loop-b-init : goal.loop-b-init
unfolding number
loop-b-init c = record { read = refl; small = lit< tt }

pub loop-b-preserved : goal.loop-b-preserved
loop-b-preserved c =
    let i = c.loop-b.b-index in
    let s = c.args.s.now in
    let inv = c.loop-b.invariant in
    record {
      read = rw (add-one i, take-suc s i 0 (omega arith), number_snoc 256 (lit< tt) (take i s) (get_or s i 0), inv.read);
      small = rw (add-one i, pow-suc 256 i) (omega arith);
    }

pub returns : goal.returns
returns c =
    let all : c.loop-b.b-index ≡ length c.args.s.now = omega arith in
    let inv = c.loop-b.invariant in
    (inv.read ∙ rw (all, take-length c.args.s.now), rw all at inv.small)
