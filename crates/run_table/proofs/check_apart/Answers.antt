-- `run_table::check_apart` meets its contract.
use mathlib.Core.Path.{refl, sym, ◌∙◌}
use lib.ListN.{take}
use Rattle.run_table.proofs.Laws.Enabling.{ground_found, links_refuse}
use Rattle.run_table.proofs.check_apart.Goals.{then-overlap_within-via-then-overlap_within, then-overlap_within-via-else-overlap_within+then-overlapping}
use Rattle.run_table.proofs.check_apart.Goals as goal

pub returns-then-is_some : goal.returns-then-is_some
returns-then-is_some c =
    let l = take c.args.count c.args.run.now in
    let found = ground_found l c.args.s _ c.find.result c.of.ensures.asks c.find.ensures in
    links_refuse l c.args.s _ _ _ (c.if-is_some.ensures ∙ found) refl refl

pub returns-then-overlap_within : goal.returns-then-overlap_within
returns-then-overlap_within c =
    let s = c.args.s in
    let l = take c.args.count c.args.run.now in
    let found = c.if-is_some.ensures ∙ ground_found l s _ c.find.result c.of.ensures.asks c.find.ensures in
    elim c.then-overlap_within.branch [
      | then-overlap_within-via-then-overlap_within w ↦ links_refuse l s _ _ _ found (sym w.if-overlap_within.true ∙ c.overlap_within.ensures) refl
      | then-overlap_within-via-else-overlap_within+then-overlapping w ↦ links_refuse l s _ _ _ found (sym w.if-overlap_within.false ∙ c.overlap_within.ensures) (sym w.if-overlapping.true ∙ w.overlapping.ensures)
    ]

pub returns : goal.returns
returns c =
    let l = take c.args.count c.args.run.now in
    let found = c.if-is_some.ensures ∙ ground_found l c.args.s _ c.find.result c.of.ensures.asks c.find.ensures in
    links_refuse l c.args.s _ _ _ found (sym c.if-overlap_within.false ∙ c.overlap_within.ensures) (sym c.if-overlapping.false ∙ c.overlapping.ensures)
