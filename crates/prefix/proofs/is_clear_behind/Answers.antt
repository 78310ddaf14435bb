-- `prefix::is_clear_behind`: what is left of a word when its first bits are shifted out.
use Prim.Native.Nat.{◌-◌, ◌^◌, ◌<◌}
use native.Mathlib.Nat.{mod-one, mod-eq_of_lt}
use native.Mathlib.Omega.{arith}
use mathlib.Core.Path.{◌≡◌}
use borrow.Author.Rules.{rules}
use Rattle.prefix.proofs.Laws.Words.{clear_words, shifted_out}
use Rattle.prefix.proofs.is_clear_behind.Goals as goal

pub returns-then-p-lt64 : goal.returns-then-p-lt64
returns-then-p-lt64 c =
    let a = c.args in
    let all : 64 - (a.p.len - 64) ≡ 64 = omega arith in
    let low : a.p.low < 2 ^ 64 = search rules in
    rw (shifted_out a.p.len a.p.high (omega arith), clear_words a.p.len a.p.high a.p.low, all, mod-eq_of_lt low)

pub returns-then-p-lt128 : goal.returns-then-p-lt128
returns-then-p-lt128 c =
    let a = c.args in
    let none : 64 - a.p.len ≡ 0 = omega arith in
    rw (shifted_out (a.p.len - 64) a.p.low (omega arith), clear_words a.p.len a.p.high a.p.low, none, mod-one a.p.high)

pub returns : goal.returns
returns c =
    let a = c.args in
    let none : 64 - a.p.len ≡ 0 = omega arith in
    let nor : 64 - (a.p.len - 64) ≡ 0 = omega arith in
    rw (clear_words a.p.len a.p.high a.p.low, none, nor, mod-one a.p.high, mod-one a.p.low)
