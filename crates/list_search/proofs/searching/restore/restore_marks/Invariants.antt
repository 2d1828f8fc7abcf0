use Rattle.std.proofs.Common.{◌≡◌, ◌≢◌, ℕ, ◌<◌, ◌⊎◌, Some, length, slice_index, slice_get}
use Rattle.std.specs.Prelude.{vec_len}
use Rattle.order_graph.specs.Lists.{lists_of, row}
use Rattle.order_graph.specs.Spots.{spots_of}
use Rattle.order_graph.specs.declared.spot.Spot.{Spot}
use Rattle.list_search.proofs.searching.restore.restore_marks.Given as goal

abbrev pub invariant-loop-i : goal.invariant-loop-i
invariant-loop-i l = record {
  count : vec_len l.marks ≡ vec_len l.fn.marks;
  each : (m : ℕ) → (slice_index l.marks.items m ≡ length (row (lists_of l.graph) m))
      ⊎ ((slice_index l.marks.items m ≡ slice_index l.fn.marks.items m)
      × ((k : ℕ) (q : Spot) → k < l.i → slice_get (spots_of (lists_of l.graph) l.x) k ≡ Some q → q.list ≢ m));
}
