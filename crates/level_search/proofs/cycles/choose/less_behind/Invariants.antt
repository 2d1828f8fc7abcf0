use Rattle.std.proofs.Common.{◌≡◌, ◌⊎◌, ℕ, ◌+◌, ◌<◌, ◌≤◌, length, slice_index}
use Rattle.order_graph.specs.Lists.{lists_of, row, Stands}
use Rattle.list_search.specs.Progress.{IsAfter}
use Rattle.level_search.proofs.cycles.choose.less_behind.Given as goal

abbrev pub invariant-loop-j : goal.invariant-loop-j
invariant-loop-j l = record {
  least : (k y : ℕ) → l.spot.place < k → k < l.j → Stands (lists_of l.graph) l.spot.list k y
      → slice_index l.depths y ≡ l.depth → l.least ≤ y;
  falls : l.least ≤ l.best;
  first : (l.least ≡ l.best) ⊎ (IsAfter (lists_of l.graph) l.spot.list l.spot.place l.least
      × (slice_index l.depths l.least ≡ l.depth));
  within : l.j ≤ length (row (lists_of l.graph) l.spot.list);
  looked : l.looked ≤ l.fn.looked + l.j;
  forward : l.fn.looked ≤ l.looked;
}
