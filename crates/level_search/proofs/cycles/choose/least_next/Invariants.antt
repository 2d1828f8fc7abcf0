use Rattle.std.proofs.Common.{◌≡◌, ◌⊎◌, ℕ, ◌+◌, ◌<◌, ◌≤◌, Some, length, slice_get, slice_index, take}
use Rattle.std.specs.Prelude.{sum_by}
use Rattle.list_search.specs.Graph.{Before}
use Rattle.order_graph.specs.Lists.{lists_of, row}
use Rattle.list_search.specs.Progress.{IsAfter}
use Rattle.order_graph.specs.Spots.{spots_of}
use Rattle.order_graph.specs.declared.spot.Spot.{Spot}
use Rattle.level_search.proofs.cycles.choose.least_next.Given as goal

abbrev pub invariant-loop-i : goal.invariant-loop-i
invariant-loop-i l = record {
  least : (k : ℕ) (q : Spot) (y : ℕ) → k < l.i → slice_get (spots_of (lists_of l.graph) l.a) k ≡ Some q
      → IsAfter (lists_of l.graph) q.list q.place y
      → slice_index l.depths y ≡ l.depth → l.least ≤ y;
  first : (l.least ≡ (length l.graph.elements))
      ⊎ (Before (lists_of l.graph) l.a l.least × (slice_index l.depths l.least ≡ l.depth));
  looked : l.looked ≤ l.fn.looked + sum_by (λ (q : Spot). length (row (lists_of l.graph) q.list))
      (take l.i (spots_of (lists_of l.graph) l.a));
  forward : l.fn.looked ≤ l.looked;
}
