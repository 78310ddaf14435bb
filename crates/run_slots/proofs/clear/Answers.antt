-- `run_slots::clear` meets its contract.
use native.Mathlib.Omega.{arith}
use mathlib.Core.Path.{◌≡◌, ◌∙◌}
use lib.ListN.{length, take, length-take}
use Rattle.run_slots.proofs.Laws.Clears.{cleared_by_fill}
use Rattle.run_slots.proofs.clear.Goals as goal

pub returns : goal.returns
returns c =
    let n = c.min-n.result in
    let run = c.args.run.now in
    let long : length (take n run) ≡ n = length-take n run ∙ omega (arith, c.min-n.ensures) in
    rw (c.fill.ensures.after (λ y e. e), long, c.blank_slot.ensures) (cleared_by_fill c.args.count n run c.min-n.ensures)
