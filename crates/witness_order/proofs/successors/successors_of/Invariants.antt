use Rattle.std.proofs.Common.{◌≡◌, ℕ, ◌≤◌, length, take, vec_len}
use Rattle.std.specs.Prelude.{◌↔◌, Contains, sum_by}
use Rattle.order_graph.specs.Lists.{lists_of, row}
use Rattle.witness_order.specs.Edges.{lists_in, AreKept}
use Rattle.witness_order.proofs.Listing.{AreNeighboursBelow}
use Rattle.witness_order.proofs.successors.successors_of.Given as goal

abbrev pub invariant-loop-list : goal.invariant-loop-list
invariant-loop-list l = record {
  count : vec_len l.successors.heads ≡ length l.graph.elements;
  kept : AreKept l.successors;
  listed : (x y : ℕ) → Contains (row (lists_in l.successors) x) y
      ↔ AreNeighboursBelow (lists_of l.graph) l.list x y;
  short : vec_len l.successors.edges ≤ sum_by (λ r. length r) (take l.list (lists_of l.graph));
}
