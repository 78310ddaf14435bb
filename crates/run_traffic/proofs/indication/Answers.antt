-- `run_traffic::indication` meets its contract.
use Rattle.std.proofs.Common.{rules, ◌≡◌, Err}
use mathlib.Core.Path.{sym, ◌∙◌, ap}
use Rattle.replies.specs.Numbers.{number_of, reply_number}
use Rattle.ipv6.specs.Packet.{fault_place}
use Rattle.links.specs.declared.Chosen.{Chosen}
use Rattle.links.specs.Run.{over}
use Rattle.traffic.specs.Replies.{reception_of}
use Rattle.traffic.specs.Arrives.{Received, indication, deliver_on}
use Rattle.run_traffic.proofs.Laws.Faults.{refused, passed}
use Rattle.run_traffic.proofs.Laws.Refused.{received-refused, received_on}
use Rattle.run_traffic.proofs.indication.Goals as goal

pub returns-in_err-map_err : goal.returns-in_err-map_err
returns-in_err-map_err c =
    let args = c.args in
    let f = c.in_err-map_err.field-0.0 in
    let p = refused _ c.check.result c.map_err.result f c.map_err.ensures.cases c.in_err-map_err.was in
    let fault : f ≡ record { refusal = p.0; place = fault_place (number_of p.0) args.packet.now } = search rules in
    let is : reception_of c.from_residual.result ≡ reception_of (Err f) = search rules in
    let none = received-refused (over args.head args.run.now) (indication args.h args.packet.now) args.out.now p.0 (sym (ap reply_number p.1) ∙ c.check.ensures) in
    (is ∙ ap (λ g. reception_of (Err g)) fault ∙ sym (ap (λ (r : Received). r.reply) none), sym (ap (λ (r : Received). r.buffer) none))

pub returns : goal.returns
returns c =
    let args = c.args in
    let x = indication args.h args.packet.now in
    let out = args.out.now in
    let none = passed _ c.check.result c.map_err.result c.in_ok-map_err.field-0 c.map_err.ensures.cases c.in_ok-map_err.was in
    let on = received_on (over args.head args.run.now) x out (none ∙ c.check.ensures) in
    let whole = ap (λ (l : Chosen). deliver_on l x out) c.chosen_for.ensures ∙ sym on in
    let delivered = c.deliver.ensures in
    (delivered.0 ∙ ap (λ (r : Received). r.reply) whole, delivered.1 ∙ ap (λ (r : Received). r.buffer) whole)
