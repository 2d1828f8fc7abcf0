use Rattle.std.proofs.Common.{◌≡◌, ℕ, ◌<◌, [], map, take, slice_index_or, vec_len}
use Rattle.element_numbers.specs.Cuts.{rows_of}
use Rattle.order_graph.specs.Spots.{spots_from}
use Rattle.order_graph.proofs.spots.all_spots.Given as goal

abbrev pub invariant-loop-list : goal.invariant-loop-list
invariant-loop-list l = record {
  count : vec_len l.spots ≡ l.elements;
  spots : (x : ℕ) → x < l.elements → slice_index_or (map (λ s. s.items) l.spots.items) x []
      ≡ spots_from 0 (take l.list (rows_of l.places)) x;
}
