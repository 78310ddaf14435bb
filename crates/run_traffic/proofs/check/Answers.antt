-- `run_traffic::check` meets its contract.
use Rattle.std.proofs.Common.{rules, ◌≡◌}
use mathlib.Core.Path.{◌∙◌}
use Rattle.replies.specs.Numbers.{number_of, reply_number}
use Rattle.links.specs.Run.{too_short}
use Rattle.traffic.specs.Arrives.{indication, indication_values, content_rules}
use Rattle.traffic.specs.Run.{choice_rules_over}
use Rattle.traffic.proofs.Laws.Receive.{values_numbered}
use Rattle.run_traffic.proofs.Laws.Order.{by_values, by_length, by_rest}
use Rattle.run_traffic.proofs.check.Goals as goal

pub returns-in_err-check_values : goal.returns-in_err-check_values
unfolding choice_rules_over indication_values
returns-in_err-check_values c =
    let e = c.in_err-check_values.field-0.0 in
    let x = indication c.args.h c.args.packet.now in
    let is : reply_number c.from_residual.result ≡ number_of e = search rules in
    is ∙ by_values (indication_values x) (content_rules x) (too_short c.args.head.max c.args.run.now) e c.in_err-check_values.ensures

pub returns-in_err-check_length : goal.returns-in_err-check_length
unfolding choice_rules_over indication_values
returns-in_err-check_length c =
    let e = c.in_err-check_length.field-0.0 in
    let x = indication c.args.h c.args.packet.now in
    let is : reply_number c.from_residual-in_err-check_length.result ≡ number_of e = search rules in
    is ∙ by_length (indication_values x) (content_rules x) (too_short c.args.head.max c.args.run.now) e (values_numbered x) c.in_ok-check_values.ensures c.in_err-check_length.ensures

pub returns : goal.returns
unfolding choice_rules_over indication_values
returns c =
    let x = indication c.args.h c.args.packet.now in
    by_rest (indication_values x) (content_rules x) (too_short c.args.head.max c.args.run.now) _ (values_numbered x) c.in_ok-check_values.ensures c.in_ok-check_length.ensures c.check_content.ensures
