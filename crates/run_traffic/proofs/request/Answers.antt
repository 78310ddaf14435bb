-- `run_traffic::request` meets its contract.
use Rattle.std.proofs.Common.{rules, ◌≡◌, Err}
use mathlib.Core.Path.{sym, ◌∙◌, ap}
use Rattle.replies.specs.Numbers.{number_of, reply_number}
use Rattle.ipv6.specs.Packet.{fault_place}
use Rattle.links.specs.declared.Named.{Named}
use Rattle.links.specs.Run.{over}
use Rattle.traffic.specs.Replies.{sending_of}
use Rattle.traffic.specs.Leaves.{request, request_values, send_on}
use Rattle.run_traffic.proofs.Laws.Faults.{refused, passed}
use Rattle.run_traffic.proofs.Laws.Refused.{sent-refused, sent_on}
use Rattle.run_traffic.proofs.request.Goals as goal

pub returns-in_err-map_err : goal.returns-in_err-map_err
unfolding request_values
returns-in_err-map_err c =
    let args = c.args in
    let f = c.in_err-map_err.field-0.0 in
    let p = refused _ c.check_request.result c.map_err.result f c.map_err.ensures.cases c.in_err-map_err.was in
    let fault : f ≡ record { refusal = p.0; place = fault_place (number_of p.0) args.packet.now } = search rules in
    let is : sending_of c.from_residual.result ≡ sending_of (Err f) = search rules in
    let none = sent-refused (over args.head args.run.now) (request args.h args.hop.now args.packet.now) p.0 (sym (ap reply_number p.1) ∙ c.check_request.ensures) in
    is ∙ ap (λ g. sending_of (Err g)) fault ∙ sym none

pub returns : goal.returns
unfolding request_values
returns c =
    let args = c.args in
    let q = request args.h args.hop.now args.packet.now in
    let none = passed _ c.check_request.result c.map_err.result c.in_ok-map_err.field-0 c.map_err.ensures.cases c.in_ok-map_err.was in
    c.send_on.ensures ∙ ap (λ (l : Named). send_on l q) c.link_at.ensures ∙ sym (sent_on (over args.head args.run.now) q (none ∙ c.check_request.ensures))
