-- `run_traffic::interface_address` meets its contract.
use Rattle.std.proofs.Common.{rules, ◌≡◌, Err}
use mathlib.Core.Path.{sym, ◌∙◌, ap}
use Rattle.links.specs.declared.Named.{Named}
use Rattle.links.specs.Run.{over}
use Rattle.traffic.specs.Replies.{address_of}
use Rattle.traffic.specs.Leaves.{interface_on}
use Rattle.run_traffic.proofs.Laws.Refused.{address-refused, address_on}
use Rattle.run_traffic.proofs.interface_address.Goals as goal

pub returns-in_err-check_length : goal.returns-in_err-check_length
returns-in_err-check_length c =
    let e = c.in_err-check_length.field-0.0 in
    let is : address_of c.from_residual.result ≡ address_of (Err e) = search rules in
    let n = address-refused (over c.args.head c.args.run.now) c.args.index e c.in_err-check_length.ensures in
    is ∙ sym n

pub returns : goal.returns
returns c =
    c.address_on.ensures
    ∙ ap (λ (l : Named). interface_on l.enabled c.args.head.own) c.link_at.ensures
    ∙ sym (address_on (over c.args.head c.args.run.now) c.args.index c.in_ok-check_length.ensures)
