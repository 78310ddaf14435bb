-- `value_table::start` meets its contract.
use mathlib.Core.Path.{sym}
use Rattle.replies.proofs.Laws.Numbers.{number-not_0}
use Rattle.replies.specs.Numbers.{number_of}
use Rattle.links.specs.Slots.{value_slots}
use Rattle.links.proofs.Laws.Replies.{start-refused, start-done}
use Rattle.value_table.proofs.start.Goals as goal

pub returns-in-Ok : goal.returns-in-Ok
returns-in-Ok c = rw c.fresh.ensures (sym (start-done 65 value_slots c.args.v (sym c.in-Ok.ensures)))

pub returns-in-Err : goal.returns-in-Err
returns-in-Err c =
    let e = c.in-Err.refusal in
    rw c.plain.ensures (sym (start-refused 65 value_slots c.args.v (number_of e) c.in-Err.ensures (number-not_0 e)))
