use Rattle.std.proofs.Common.{◌≡◌, ℕ, ◌<◌, ◌⊎◌, slice_index, vec_len}
use Rattle.list_search.specs.Distances.{IsAmong}
use Rattle.level_search.proofs.cycles.distances.Depths.erase.Given as goal

abbrev pub invariant-loop-k : goal.invariant-loop-k
invariant-loop-k l = record {
  reached : l.self.reached ≡ l.fn.self.reached;
  count : l.self.count ≡ l.fn.self.count;
  places : vec_len l.self.depths ≡ vec_len l.fn.self.depths;
  left : (x : ℕ) → x < vec_len l.self.depths → (slice_index l.self.depths.items x ≡ l.limit)
      ⊎ IsAmong l.self.reached.items l.k l.self.count x;
}
