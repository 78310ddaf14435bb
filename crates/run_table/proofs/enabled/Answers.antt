-- `run_table::enabled` meets its contract.
use native.Mathlib.Omega.{arith}
use mathlib.Core.Path.{sym, ◌∙◌}
use lib.ListN.{take, length-take}
use Rattle.std.proofs.lemmas.Result.{err_from_is_err_and}
use Rattle.links.specs.Slots.{unused}
use Rattle.links.specs.Calls.{enable}
use Rattle.run_table.proofs.Laws.Refused.{by_values, by_length}
use Rattle.run_table.proofs.Laws.Enabling.{by_ground, by_links, none_free, found_within, takes}
use Rattle.run_table.proofs.enabled.Goals as goal

pub returns-in_err-check_settings_values : goal.returns-in_err-check_settings_values
returns-in_err-check_settings_values c =
    let x = c.from_residual in
    let p = err_from_is_err_and x.result x.ensures.1 in
    rw (p.1, p.2) (by_values c.args.head c.args.run.now (enable c.args.s) c.in_err-check_settings_values.field-0.0 c.in_err-check_settings_values.ensures)

pub returns-in_err-check_length : goal.returns-in_err-check_length
returns-in_err-check_length c =
    let x = c.from_residual-in_err-check_length in
    let p = err_from_is_err_and x.result x.ensures.1 in
    rw (p.1, p.2)
    (by_length c.args.head c.args.run.now (enable c.args.s) c.in_err-check_length.field-0.0 c.in_ok-check_settings_values.ensures c.in_err-check_length.ensures)

pub returns-in_err-check_ground : goal.returns-in_err-check_ground
returns-in_err-check_ground c =
    let x = c.from_residual-in_err-check_ground in
    let p = err_from_is_err_and x.result x.ensures.1 in
    rw (p.1, p.2)
    (by_ground c.args.head c.args.run.now c.args.s c.in_ok-check_settings_values.ensures c.in_ok-check_length.ensures c.in_err-check_ground.field-0.0 c.in_err-check_ground.ensures)

pub returns-in_err-check_apart : goal.returns-in_err-check_apart
returns-in_err-check_apart c =
    let x = c.from_residual-in_err-check_apart in
    let p = err_from_is_err_and x.result x.ensures.1 in
    rw (p.1, p.2)
    (by_links c.args.head c.args.run.now c.args.s c.in_ok-check_settings_values.ensures c.in_ok-check_length.ensures c.in_ok-check_ground.ensures c.in_err-check_apart.field-0.0 (rw (← c.slot_count-count.ensures) c.in_err-check_apart.ensures))

pub returns-in_default : goal.returns-in_default
returns-in_default c =
    none_free c.args.head c.args.run.now c.args.s c.in_ok-check_settings_values.ensures c.in_ok-check_length.ensures c.in_ok-check_ground.ensures
    (rw (← c.slot_count-count.ensures) c.in_ok-check_apart.ensures) (rw (← c.slot_count-count.ensures) (sym c.find.ensures ∙ c.in_default.is))

pub overflow_add-result : goal.overflow_add-result
overflow_add-result c = omega (arith, found_within unused (take c.slot_count-count.result c.args.run.now) c.in-Some.place (sym c.find.ensures ∙ c.in-Some.is), length-take c.slot_count-count.result c.args.run.now)

pub returns : goal.returns
returns c =
    rw (c.store.ensures, c.stored.ensures)
    (takes c.args.head c.args.run.now c.args.s c.in_ok-check_settings_values.ensures c.in_ok-check_length.ensures c.in_ok-check_ground.ensures
    (rw (← c.slot_count-count.ensures) c.in_ok-check_apart.ensures) c.in-Some.place (rw (← c.slot_count-count.ensures) (sym c.find.ensures ∙ c.in-Some.is)))
