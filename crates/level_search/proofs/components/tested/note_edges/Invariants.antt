use Rattle.std.proofs.Common.{ℕ, ◌≤◌, ◌⊎◌, length, slice_index}
use Rattle.std.specs.Prelude.{Contains}
use Rattle.order_graph.specs.Lists.{lists_of}
use Rattle.witness_order.specs.Edges.{linked_from}
use Rattle.level_search.specs.StrongComponents.{AreLinks, FitsLinks, rank}
use Rattle.level_search.proofs.components.tested.note_edges.Given as goal

abbrev pub invariant-loop-number : goal.invariant-loop-number
invariant-loop-number l = record {
  within : l.number ≤ length l.successors.edges.items;
  fits : FitsLinks (length l.graph.elements) l.links;
  links : AreLinks (lists_of l.graph) l.guess l.links;
  left : (y : ℕ) → Contains (linked_from l.successors.edges.items l.number) y
      → Contains (linked_from l.successors.edges.items (slice_index l.successors.heads.items l.x)) y;
  climbs : (y : ℕ)
      → Contains (linked_from l.successors.edges.items (slice_index l.successors.heads.items l.x)) y
      → Contains (linked_from l.successors.edges.items l.number) y ⊎ (rank l.guess l.x ≤ rank l.guess y);
}

abbrev pub decreases-loop-number : goal.decreases-loop-number
decreases-loop-number l = l.number
