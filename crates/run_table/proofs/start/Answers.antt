-- `run_table::start` meets its contract.
use Rattle.std.proofs.lemmas.Result.{err_from_is_err_and}
use Rattle.run_table.proofs.Laws.Refused.{start-by_values, start-by_length, start_done}
use Rattle.run_table.proofs.start.Goals as goal

pub returns-in_err-check_start : goal.returns-in_err-check_start
returns-in_err-check_start c =
    let p = err_from_is_err_and c.from_residual.result c.from_residual.ensures.1 in
    rw (p.1, p.2) (start-by_values c.args.run.now c.args.v c.in_err-check_start.field-0.0 c.in_err-check_start.ensures)

pub returns-in_err-check_length : goal.returns-in_err-check_length
returns-in_err-check_length c =
    let x = c.from_residual-in_err-check_length in
    let p = err_from_is_err_and x.result x.ensures.1 in
    rw (p.1, p.2) (start-by_length c.args.run.now c.args.v c.in_ok-check_start.ensures c.in_err-check_length.field-0.0 c.in_err-check_length.ensures)

pub returns : goal.returns
returns c =
    rw (c.clear.ensures, c.slot_count.ensures)
    (start_done c.args.run.now c.args.v c.in_ok-check_start.ensures c.in_ok-check_length.ensures)
