use Rattle.std.proofs.Common.{◌≡◌, ℕ, ◌<◌, ◌≤◌, ◌⊎◌, true, false, length, slice_index, slice_index_or}
use Rattle.order_graph.specs.Lists.{lists_of, row, Stands}
use Rattle.list_search.specs.Graph.{graph_of}
use Rattle.list_search.specs.Progress.{FitsState}
use Rattle.list_search.proofs.searching.restore.restore.Given as goal

abbrev pub invariant-loop-k : goal.invariant-loop-k
invariant-loop-k l = record {
  fits : FitsState (graph_of l.graph) l.state;
  queue : l.state.queue ≡ l.fn.state.queue;
  marks : (m : ℕ) → (slice_index l.state.marks.items m ≡ length (row (lists_of l.graph) m))
      ⊎ ((j : ℕ) × (p : ℕ) × (l.k ≤ j) × (j < l.fn.state.tail)
      × Stands (lists_of l.graph) m p (slice_index l.state.queue.items j));
  seen : (x : ℕ) → slice_index_or l.state.seen.items x false ≡ true
      → (j : ℕ) × (l.k ≤ j) × (j < l.fn.state.tail) × (slice_index l.state.queue.items j ≡ x);
}
