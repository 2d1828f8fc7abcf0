use Rattle.std.proofs.Common.{◌≡◌, ℕ, ◌<◌, length}
use Rattle.order_graph.specs.Lists.{lists_of}
use Rattle.level_search.specs.Sources.{Rises}
use Rattle.level_search.proofs.sources.rise_along.Given as goal

abbrev pub invariant-loop-list : goal.invariant-loop-list
invariant-loop-list l = record {
  count : length l.ranks ≡ length l.graph.elements;
  rise : (k : ℕ) → k < l.list → Rises (lists_of l.graph) l.ranks k;
}
