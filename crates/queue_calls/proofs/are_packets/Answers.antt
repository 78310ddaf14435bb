-- `queue_calls::are_packets`: what is left of the walk decides for the whole of it.
use native.Mathlib.Omega.{arith}
use mathlib.Core.Path.{sym, ◌∙◌}
use lib.ListN.{drop, length-drop}
use Rattle.queue_calls.proofs.Laws.Walk.{ends, found, not_found}
use Rattle.queue_calls.proofs.are_packets.Goals as goal

pub returns-in_default : goal.returns-in_default
returns-in_default c =
    let held = c.args.held.now in
    let at = c.loop-at.at in
    not_found held at (omega arith) (sym c.front_at.ensures ∙ c.in_default.is) ∙ sym c.loop-at.invariant.1

pub overflow_add-at : goal.overflow_add-at
overflow_add-at c =
    -- the packet that a turn goes past
    let past = found c.args.held.now c.loop-at.at c.in-Some.length c.in-Some.start c.loop-at.invariant.0 (sym c.front_at.ensures ∙ c.in-Some.is) in
    omega (arith, past.within)

pub loop-at-smaller : goal.loop-at-smaller
loop-at-smaller c =
    -- the packet that a turn goes past
    let past = found c.args.held.now c.loop-at.at c.in-Some.length c.in-Some.start c.loop-at.invariant.0 (sym c.front_at.ensures ∙ c.in-Some.is) in
    omega (arith, past.on, past.within)

pub loop-at-preserved : goal.loop-at-preserved
loop-at-preserved c =
    -- the packet that a turn goes past
    let past = found c.args.held.now c.loop-at.at c.in-Some.length c.in-Some.start c.loop-at.invariant.0 (sym c.front_at.ensures ∙ c.in-Some.is) in
    (past.within, c.loop-at.invariant.1 ∙ past.rest)

pub returns : goal.returns
returns c =
    let held = c.args.held.now in
    let at = c.loop-at.at in
    ends (drop at held) (omega (arith, length-drop at held, c.loop-at-test.false)) ∙ sym c.loop-at.invariant.1
