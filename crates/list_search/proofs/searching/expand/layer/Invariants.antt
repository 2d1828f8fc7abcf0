use Rattle.std.proofs.Common.{ℕ, ◌+◌, ◌<◌, ◌≤◌, slice_index, sum}
use Rattle.order_graph.specs.Lists.{lists_of, ticked}
use Rattle.list_search.specs.Graph.{graph_of}
use Rattle.list_search.specs.Progress.{IsGood, Grows, Works, IsExpanded, FollowsLayer}
use Rattle.list_search.proofs.searching.expand.layer.Given as goal

abbrev pub invariant-loop-k : goal.invariant-loop-k
invariant-loop-k l = record {
  good : IsGood (graph_of l.graph) l.element l.state;
  grows : Grows (FollowsLayer (lists_of l.graph) l.fn.state.queue.items l.head l.end) l.element l.fn.state
      l.state;
  expanded : (i : ℕ) → l.head ≤ i → i < l.k
      → IsExpanded (lists_of l.graph) l.state.marks.items (slice_index l.state.queue.items i);
  forward : l.fn.looked ≤ l.looked;
  works : Works l.fn.state l.state l.fn.looked l.looked;
  one : l.head < l.k → Works l.fn.state l.state (ticked l.fn.looked) l.looked;
  cost : l.looked + sum l.state.marks.items + l.head ≤ l.fn.looked + l.k + sum l.fn.state.marks.items;
}
