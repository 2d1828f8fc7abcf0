use Rattle.std.proofs.Common.{◌≡◌, ℕ, ◌+◌, ◌<◌, ◌≤◌, Some, slice_index, slice_get, sum}
use Rattle.order_graph.specs.Lists.{lists_of, ticked}
use Rattle.list_search.specs.Graph.{graph_of, Before}
use Rattle.list_search.specs.Progress.{IsGood, Grows, Works}
use Rattle.order_graph.specs.Spots.{spots_of}
use Rattle.order_graph.specs.declared.spot.Spot.{Spot}
use Rattle.list_search.proofs.searching.expand.expand.Given as goal

abbrev pub invariant-loop-i : goal.invariant-loop-i
invariant-loop-i l = record {
  good : IsGood (graph_of l.graph) l.element l.state;
  grows : Grows (Before (lists_of l.graph) l.x) l.element l.fn.state l.state;
  mark : (k : ℕ) (q : Spot) → k < l.i → slice_get (spots_of (lists_of l.graph) l.x) k ≡ Some q
      → slice_index l.state.marks.items q.list ≤ q.place + 1;
  forward : l.fn.looked ≤ l.looked;
  works : Works l.fn.state l.state (ticked l.fn.looked) l.looked;
  cost : l.looked + sum l.state.marks.items ≤ l.fn.looked + 1 + sum l.fn.state.marks.items;
}
