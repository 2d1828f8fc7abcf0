use Rattle.std.proofs.Common.{◌≡◌, ℕ, ◌<◌, ◌++◌, [], map, take, slice_index_or, vec_len}
use Rattle.order_graph.specs.Spots.{spots_in}
use Rattle.order_graph.proofs.spots.row_spots.Given as goal

abbrev pub invariant-loop-j : goal.invariant-loop-j
invariant-loop-j l = record {
  count : vec_len l.spots ≡ vec_len l.fn.spots;
  spots : (x : ℕ) → x < vec_len l.fn.spots
      → slice_index_or (map (λ s. s.items) l.spots.items) x []
      ≡ slice_index_or (map (λ s. s.items) l.fn.spots.items) x [] ++ spots_in l.list 0 (take l.j l.row) x;
}
