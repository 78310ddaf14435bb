-- `leaves::send_on` meets its contract.
use Rattle.std.specs.Prelude.{Err}
use mathlib.Core.Path.{sym, ◌∙◌, ap}
use Rattle.traffic.specs.declared.Fault.{Fault}
use Rattle.traffic.specs.Replies.{sending_of}
use Rattle.traffic.specs.Leaves.{request}
use Rattle.traffic.proofs.Laws.Send.{on_refused}
use Rattle.leaves.proofs.send_on.Goals as goal

pub returns-in-Err : goal.returns-in-Err
returns-in-Err c =
    let args = c.args in
    ap (λ (f : Fault). sending_of (Err f)) c.of.ensures
    ∙ sym (on_refused args.link (request args.h args.hop.now args.packet.now) c.in-Err.refusal c.in-Err.ensures.number)
