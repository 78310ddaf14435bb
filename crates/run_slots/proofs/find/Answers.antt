-- `run_slots::find` meets its contract.
use mathlib.Core.Path.{◌∙◌}
use lib.ListN.{take}
use Rattle.std.proofs.Common.{rules, tests}
use Rattle.std.proofs.lemmas.Iterator.{YieldsList-from_slice}
use Rattle.std.proofs.lemmas.Iterator.Search.{position_from_yields_List}
use Rattle.std.proofs.lemmas.List.{take_min}
use Rattle.run_slots.proofs.Laws.Finds.{found_by_position}
use Rattle.run_slots.proofs.find.Goals as goal

pub returns : goal.returns
returns g c =
    position_from_yields_List (g.Q.Question.test c.args.asked) _ _ _ c.position.ensures.ran
    (YieldsList-from_slice (take c.min.result c.args.run.now) cc)
    (λ x b q k. let looked = g.met.Q.Question.looked c.args.asked x.now in search (rules, tests))
    ∙ found_by_position (take c.min.result c.args.run.now) (g.Q.Question.test c.args.asked)
    ∙ rw (c.min.ensures, take_min c.args.count c.args.run.now)
