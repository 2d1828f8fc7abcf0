use Rattle.std.proofs.Common.{◌≡◌, ◌-◌, length, vec_len}
use Rattle.witness_order.specs.Edges.{linked_lists, edges}
use Rattle.witness_order.proofs.InTurn.{InTurn}
use Rattle.witness_order.proofs.least_order.taken_in_turn.Given as goal

abbrev pub invariant-loop-x : goal.invariant-loop-x
invariant-loop-x l = record {
  size : vec_len l.indegrees ≡ length l.graph.elements;
  state : InTurn (edges (linked_lists l.edges.items l.heads.items)) (length l.graph.elements) l.taken.items
      l.free.keys l.indegrees.items;
}

abbrev pub decreases-loop-x : goal.decreases-loop-x
decreases-loop-x l = length l.graph.elements - length l.taken.items
