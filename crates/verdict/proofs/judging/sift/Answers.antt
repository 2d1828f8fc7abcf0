-- What sorting has answered: an order, or the edges of a graph that has none.
use Rattle.std.proofs.Common.{subst}
use Rattle.specification.specs.Responses.{Responses}
use Rattle.witness_order.specs.Sorted.{IsSorted}
use Rattle.verdict.proofs.judging.sift.Goals as goal

pub accepted-requires-clause-least : goal.accepted-requires-clause-least
accepted-requires-clause-least c =
    let w : Responses = c.of_covering-graph.result in
    subst (IsSorted w) c.in-Order.is c.in_ok-order.ensures
