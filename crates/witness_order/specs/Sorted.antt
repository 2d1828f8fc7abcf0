-- What sorting answers.
use Rattle.std.specs.Prelude.{length}
use Rattle.specification.specs.Orders.{IsLeastOrder, HasNoOrder}
use Rattle.specification.specs.Responses.{Responses}
use Rattle.order_graph.specs.Lists.{lists_of}
use Rattle.witness_order.specs.Edges.{AreEdgesOf}
use Rattle.witness_order.specs.declared.least_order.Sorted.{Sorted}
use Rattle.witness_order.specs.declared.least_order.Sorted.TheVariants.{Order, Cyclic}

-- the least order; or there is none, and these are the edges
abbrev pub IsSorted : Responses → Sorted → Type 0
IsSorted v (Order order) = IsLeastOrder v order
IsSorted v (Cyclic successors) = HasNoOrder v × AreEdgesOf (lists_of v) (length v.elements) successors
