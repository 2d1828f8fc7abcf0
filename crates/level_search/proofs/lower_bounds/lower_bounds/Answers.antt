use Rattle.std.proofs.Common.{arith}
use Rattle.order_graph.specs.Lists.{lists_of}
use Rattle.level_search.proofs.LowerBounds.{bounds-hold}
use Rattle.level_search.proofs.lower_bounds.lower_bounds.Goals as goal

pub returns : goal.returns
returns c =
    let most = c.saturating_add.ensures in
    bounds-hold (lists_of c.args.graph.now) c.in_ok-levels.levels c.in-Some.entry c.in-Some.ensures.rises
    c.in-Some.ensures.entered c.take_bounds.new.levels.items c.saturating_add.result (omega arith)
    c.take_bounds.ensures.low c.take_bounds.ensures.others
