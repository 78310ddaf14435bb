-- `run_slots::overlapping` meets its contract.
use mathlib.Core.Path.{◌∙◌}
use lib.ListN.{take}
use Rattle.std.proofs.Common.{arith, rules, tests}
use Rattle.std.proofs.lemmas.Iterator.{YieldsList-from_range}
use Rattle.std.proofs.lemmas.Iterator.Search.{any_from_yields_List}
use Rattle.run_slots.proofs.Laws.Overlaps.{asked_at, one_is_asked}
use Rattle.run_slots.proofs.overlapping.Goals as goal

pub returns : goal.returns
returns c =
    let l = take c.args.count c.args.run.now in
    let s = c.args.s in
    any_from_yields_List (asked_at l s) _ _ _ c.any.ensures.ran
    (YieldsList-from_range 0 c.min-listed.result c.min-listed.result (cc) (omega arith))
    (λ x b q k. search (rules, tests))
    ∙ one_is_asked l s _ c.min-listed.ensures
