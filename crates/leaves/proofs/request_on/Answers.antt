-- `leaves::request_on` meets its contract.
use Rattle.std.specs.Prelude.{Err}
use mathlib.Core.Path.{sym, ◌∙◌, ap}
use Rattle.traffic.specs.declared.Fault.{Fault}
use Rattle.traffic.specs.Replies.{sending_of}
use Rattle.traffic.specs.Leaves.{request, request_values}
use Rattle.traffic.proofs.Laws.Send.{named_refused}
use Rattle.leaves.proofs.request_on.Goals as goal

pub returns-in-Err : goal.returns-in-Err
unfolding request_values
returns-in-Err c =
    let args = c.args in
    ap (λ (f : Fault). sending_of (Err f)) c.of.ensures
    ∙ sym (named_refused args.link (request args.h args.hop.now args.packet.now) c.in-Err.refusal c.in-Err.ensures)
