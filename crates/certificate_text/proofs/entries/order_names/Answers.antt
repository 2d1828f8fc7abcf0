use Rattle.std.proofs.Common.{◌∙◌}
use Rattle.certificate_text.proofs.OutlineTexts.{some-order, order-long, order-rest}
use Rattle.certificate_text.proofs.entries.order_names.Goals as goal

pub split_at-requires : goal.split_at-requires
split_at-requires c = let found = some-order c.args.line.now c.in_ok-check_order.ensures.ok in
    order-long c.args.line.now found.0 found.2

pub returns-clause-ok : goal.returns-clause-ok
returns-clause-ok c =
    let found = some-order c.args.line.now c.in_ok-check_order.ensures.ok in
    (found.0, found.1, c.split_at.ensures.back ∙ order-rest c.args.line.now found.0 found.2)
