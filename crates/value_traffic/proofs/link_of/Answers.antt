-- `value_traffic::link_of` meets its contract.
use Rattle.std.proofs.Common.{rules, ◌≡◌, Err, Some}
use mathlib.Core.Path.{sym, ◌∙◌, ap}
use Rattle.replies.specs.Numbers.{number_of}
use Rattle.replies.proofs.Laws.Numbers.{number-not_0}
use Rattle.links.specs.declared.Chosen.{Chosen}
use Rattle.traffic.specs.Replies.{choice_made}
use Rattle.traffic.specs.Arrives.{indication}
use Rattle.traffic.proofs.Laws.Receive.{unchosen, chosen_on}
use Rattle.value_traffic.proofs.link_of.Goals as goal

pub returns-in_err-check : goal.returns-in_err-check
returns-in_err-check c =
    let f = c.in_err-check.field-0.0 in
    let e = c.in_err-check.ensures in
    let is : choice_made c.from_residual.result ≡ choice_made (Err f) = search rules in
    let none = unchosen c.args.t (indication c.args.h c.args.packet.now) (number_of f.refusal) e.0 (number-not_0 f.refusal) in
    is ∙ rw e.1 (sym none)

pub returns : goal.returns
returns c =
    ap (λ (l : Chosen). record { number = 0; place = 0; link = Some l.index }) c.chosen_for.ensures
    ∙ sym (chosen_on c.args.t (indication c.args.h c.args.packet.now) c.in_ok-check.ensures)
