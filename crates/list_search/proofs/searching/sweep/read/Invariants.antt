use Rattle.std.proofs.Common.{◌≡◌, ℕ, ◌+◌, ◌<◌, ◌≤◌, false}
use Rattle.order_graph.specs.Lists.{lists_of, Stands}
use Rattle.list_search.specs.Graph.{graph_of}
use Rattle.list_search.specs.Progress.{IsGood, Grows, IsReached, IsAfter, Works}
use Rattle.list_search.proofs.searching.sweep.read.Given as goal

abbrev pub invariant-loop-j : goal.invariant-loop-j
invariant-loop-j l = record {
  good : IsGood (graph_of l.graph) l.element l.state;
  grows : Grows (IsAfter (lists_of l.graph) l.spot.list l.spot.place) l.element l.fn.state l.state;
  reached : (j x : ℕ) → l.spot.place < j → j < l.j → Stands (lists_of l.graph) l.spot.list j x
      → IsReached l.state.queue.items l.state.tail x;
  missed : l.state.found ≡ false → (j : ℕ) → l.spot.place < j → j < l.j
      → ¬ Stands (lists_of l.graph) l.spot.list j l.element;
  marks : l.state.marks ≡ l.fn.state.marks;
  works : Works l.fn.state l.state l.fn.looked l.looked;
  cost : l.looked + (l.spot.place + 1) ≤ l.fn.looked + l.j;
}
