-- `value_traffic::request` meets its contract.
use mathlib.Core.Path.{sym, ◌∙◌, ap}
use Rattle.links.specs.declared.Named.{Named}
use Rattle.traffic.specs.Leaves.{request, send_named}
use Rattle.traffic.proofs.Laws.Send.{sent-named}
use Rattle.value_traffic.proofs.request.Goals as goal

pub returns : goal.returns
returns c =
    let args = c.args in
    let q = request args.h args.hop.now args.packet.now in
    c.request_on.ensures ∙ ap (λ (l : Named). send_named l q) c.link_at.ensures ∙ sym (sent-named args.t q)
