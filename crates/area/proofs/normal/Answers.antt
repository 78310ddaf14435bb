-- `area::normal` meets its contract.
use Prim.Native.Nat.{ℕ, ◌+◌, ◌%◌}
use native.Mathlib.Omega.{arith}
use mathlib.Core.Path.{◌≡◌, ◌∙◌, ap}
use borrow.Author.Tests.{eq-eqb, ne_eqb, lt-ltb, le-ltb}
use Rattle.area.specs.Area.{described, normal_by, normal}
use Rattle.area.proofs.normal.Goals as goal

pub returns-then-is_round : goal.returns-then-is_round
unfolding normal normal_by
returns-then-is_round c = rw (← c.is_round.ensures, c.if-is_round.true) c.described.ensures

pub returns-then-x : goal.returns-then-x
unfolding normal normal_by
returns-then-x c = rw (← c.is_round.ensures, c.if-is_round.false, eq-eqb _ _ c.if-x.true) c.described-then-x.ensures

pub returns-then-x-2 : goal.returns-then-x-2
unfolding normal normal_by
returns-then-x-2 c = rw (← c.is_round.ensures, c.if-is_round.false, ne_eqb _ _ c.if-x.false, lt-ltb _ _ c.if-x-2.true) c.described-then-x-2.ensures

-- the code takes the angle modulo 180 first, so that the sum fits
same_turn : (g : ℕ) → (g % 180 + 90) % 180 ≡ (g + 90) % 180
same_turn g = omega arith

pub returns : goal.returns
unfolding normal normal_by
returns c =
    let x = c.args.x in
    rw (← c.is_round.ensures, c.if-is_round.false, ne_eqb _ _ c.if-x.false, le-ltb _ _ c.if-x-2.false)
    (c.described-2.ensures ∙ ap (described x x.shape x.b x.a) (same_turn x.angle))
