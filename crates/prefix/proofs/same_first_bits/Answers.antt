-- `prefix::same_first_bits`: the first word by its first bits, or whole and then the second by its own.
use Prim.Native.Nat.{ℕ, ◌-◌, ◌/◌, ◌^◌, ◌<◌}
use native.Mathlib.Nat.{div-one, div-eq_of_lt}
use native.Mathlib.Omega.{arith}
use mathlib.Core.Path.{◌≡◌}
use mathlib.Core.Bool.{◌&&◌, and-true}
use lib.Dec.{eqb}
use lib.ListN.{take}
use borrow.Author.Tests.{eq-eqb, ne_eqb}
use borrow.Author.Rules.{rules}
use Rattle.octets.specs.Digits.{bits}
use Rattle.octets.specs.Runs.{same}
use Rattle.prefix.specs.Prefix.{word_bytes}
use Rattle.prefix.proofs.Laws.Words.{same_words}
use Rattle.prefix.proofs.same_first_bits.Goals as goal

pub returns-then-n-le64 : goal.returns-then-n-le64
returns-then-n-le64 c =
    let a = c.args in
    let none : a.n - 64 ≡ 0 = omega arith in
    let low : a.p.low < 2 ^ 64 = search rules in
    let low2 : a.q.low < 2 ^ 64 = search rules in
    rw (same_words a.n a.p.high a.p.low a.q.high a.q.low (search rules) low (search rules) low2, none, div-eq_of_lt low, div-eq_of_lt low2, and-true)

-- where the first word is asked for whole
past : (n high low high2 low2 : ℕ) → 64 < n → high < 2 ^ 64 → low < 2 ^ 64 → high2 < 2 ^ 64 → low2 < 2 ^ 64
    → same (take n (bits (word_bytes high low))) (take n (bits (word_bytes high2 low2)))
    ≡ (eqb high high2 && eqb (low / 2 ^ (128 - n)) (low2 / 2 ^ (128 - n)))
past n high low high2 low2 h f g f2 g2 =
    let all : 64 - n ≡ 0 = omega arith in
    let rest : 64 - (n - 64) ≡ 128 - n = omega arith in
    rw (same_words n high low high2 low2 f g f2 g2, all, rest, div-one high, div-one high2)

pub returns-then-p-q : goal.returns-then-p-q
returns-then-p-q c = rw (past c.args.n c.args.p.high c.args.p.low c.args.q.high c.args.q.low (omega arith) (search rules) (search rules) (search rules) (search rules), eq-eqb _ _ c.if-p-q.true)

pub returns-else-p-q : goal.returns-else-p-q
returns-else-p-q c = rw (past c.args.n c.args.p.high c.args.p.low c.args.q.high c.args.q.low (omega arith) (search rules) (search rules) (search rules) (search rules), ne_eqb _ _ c.if-p-q.false)

pub returns-then-p-q-2 : goal.returns-then-p-q-2
returns-then-p-q-2 c =
    let a = c.args in
    let all : 128 - a.n ≡ 0 = omega arith in
    rw (past c.args.n c.args.p.high c.args.p.low c.args.q.high c.args.q.low (omega arith) (search rules) (search rules) (search rules) (search rules), eq-eqb _ _ c.if-p-q-2.true, all, div-one a.p.low, div-one a.q.low)

pub returns-else-p-q-2 : goal.returns-else-p-q-2
returns-else-p-q-2 c = rw (past c.args.n c.args.p.high c.args.p.low c.args.q.high c.args.q.low (omega arith) (search rules) (search rules) (search rules) (search rules), ne_eqb _ _ c.if-p-q-2.false)
