use Rattle.std.proofs.Common.{ℕ, ◌<◌, ◌≤◌, length}
use Rattle.order_graph.specs.Lists.{lists_of}
use Rattle.witness_order.specs.Edges.{AreNeighbours}
use Rattle.level_search.specs.StrongComponents.{AreLinks, FitsLinks, rank}
use Rattle.level_search.proofs.components.tested.note_all_edges.Given as goal

abbrev pub invariant-loop-x : goal.invariant-loop-x
invariant-loop-x l = record {
  fits : FitsLinks (length l.graph.elements) l.links;
  links : AreLinks (lists_of l.graph) l.guess l.links;
  climbs : (x y : ℕ) → x < l.x → AreNeighbours (lists_of l.graph) x y → rank l.guess x ≤ rank l.guess y;
}
