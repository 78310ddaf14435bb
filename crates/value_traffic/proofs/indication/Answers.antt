-- `value_traffic::indication` meets its contract.
use Rattle.std.proofs.Common.{rules, ◌≡◌, Err}
use mathlib.Core.Path.{sym, ◌∙◌, ap}
use Rattle.replies.specs.Numbers.{number_of}
use Rattle.replies.proofs.Laws.Numbers.{number-not_0}
use Rattle.links.specs.declared.Chosen.{Chosen}
use Rattle.traffic.specs.Replies.{reception_of}
use Rattle.traffic.specs.Arrives.{Received, indication, deliver_on}
use Rattle.traffic.proofs.Laws.Receive.{received_unchosen, received_on}
use Rattle.value_traffic.proofs.indication.Goals as goal

pub returns-in_err-check : goal.returns-in_err-check
returns-in_err-check c =
    let args = c.args in
    let f = c.in_err-check.field-0.0 in
    let e = c.in_err-check.ensures in
    let is : reception_of c.from_residual.result ≡ reception_of (Err f) = search rules in
    let none = received_unchosen args.t (indication args.h args.packet.now) args.out.now (number_of f.refusal) e.0 (number-not_0 f.refusal) in
    (is ∙ rw e.1 (sym (ap (λ (r : Received). r.reply) none)), sym (ap (λ (r : Received). r.buffer) none))

pub returns : goal.returns
returns c =
    let args = c.args in
    let x = indication args.h args.packet.now in
    let out = args.out.now in
    let on = received_on args.t x out c.in_ok-check.ensures in
    let whole = ap (λ (l : Chosen). deliver_on l x out) c.chosen_for.ensures ∙ sym on in
    let delivered = c.deliver.ensures in
    (delivered.0 ∙ ap (λ (r : Received). r.reply) whole, delivered.1 ∙ ap (λ (r : Received). r.buffer) whole)
