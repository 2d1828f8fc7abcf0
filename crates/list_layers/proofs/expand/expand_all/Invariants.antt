use Rattle.std.proofs.Common.{◌≡◌, ℕ, ◌<◌, slice_index, vec_len}
use Rattle.order_graph.specs.Lists.{lists_of}
use Rattle.list_search.specs.Graph.{graph_of}
use Rattle.list_search.specs.Progress.{IsExpanded}
use Rattle.list_layers.specs.Progress.{Follows, Goes, IsGood, StandsIn}
use Rattle.list_layers.proofs.expand.expand_all.Given as goal

abbrev pub invariant-loop-x : goal.invariant-loop-x
invariant-loop-x l = record {
  marks : vec_len l.state.marks ≡ vec_len l.fn.state.marks;
  seen : vec_len l.state.seen ≡ vec_len l.fn.state.seen;
  good : IsGood (graph_of l.graph) l.first l.state;
  goes : Goes l.first (Follows (lists_of l.graph) l.layer) (StandsIn (lists_of l.graph) l.layer) l.fn.state
      l.fn.next.items l.state l.next.items;
  expanded : (i : ℕ) → i < l.x-index
      → IsExpanded (lists_of l.graph) l.state.marks.items (slice_index l.layer i);
}
