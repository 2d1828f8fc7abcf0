use Rattle.std.proofs.Common.{◌≡◌, ℕ, ◌+◌, ◌<◌, ◌≤◌, Some, slice_index, slice_get, vec_len}
use Rattle.order_graph.specs.Lists.{lists_of}
use Rattle.order_graph.specs.Spots.{spots_of}
use Rattle.order_graph.specs.declared.spot.Spot.{Spot}
use Rattle.list_search.specs.Graph.{Before, graph_of}
use Rattle.list_layers.specs.Progress.{Goes, HasSpot, IsGood}
use Rattle.list_layers.proofs.expand.expand.Given as goal

abbrev pub invariant-loop-i : goal.invariant-loop-i
invariant-loop-i l = record {
  marks : vec_len l.state.marks ≡ vec_len l.fn.state.marks;
  seen : vec_len l.state.seen ≡ vec_len l.fn.state.seen;
  good : IsGood (graph_of l.graph) l.first l.state;
  goes : Goes l.first (Before (lists_of l.graph) l.x) (HasSpot (lists_of l.graph) l.x) l.fn.state
      l.fn.next.items l.state l.next.items;
  mark : (k : ℕ) (q : Spot) → k < l.i → slice_get (spots_of (lists_of l.graph) l.x) k ≡ Some q
      → slice_index l.state.marks.items q.list ≤ q.place + 1;
}
