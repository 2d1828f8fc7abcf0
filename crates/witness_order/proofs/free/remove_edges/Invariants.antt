use Rattle.std.proofs.Common.{◌≡◌, ℕ, ◌+◌, ◌<◌, ◌≤◌, ◌↔◌, ◌⊎◌, All, Contains, length, slice_index, vec_len}
use Rattle.witness_order.specs.Edges.{occurrences, linked_from}
use Rattle.witness_order.proofs.free.remove_edges.Given as goal

abbrev pub invariant-loop-number : goal.invariant-loop-number
invariant-loop-number l = record {
  within : l.number ≤ length l.edges;
  size : vec_len l.indegrees ≡ vec_len l.fn.indegrees;
  known : All (λ y. y < vec_len l.fn.indegrees) (linked_from l.edges l.number);
  lowered : (y : ℕ) → y < vec_len l.fn.indegrees
      → slice_index l.indegrees.items y + occurrences (linked_from l.edges l.head) y
      ≡ slice_index l.fn.indegrees.items y + occurrences (linked_from l.edges l.number) y;
  less : (y : ℕ) → y < vec_len l.fn.indegrees → slice_index l.indegrees.items y
      ≤ slice_index l.fn.indegrees.items y;
  free : (y : ℕ) → Contains l.free.keys y
      ↔ (Contains l.fn.free.keys y ⊎ ((y < vec_len l.fn.indegrees) × (0 < slice_index l.fn.indegrees.items y)
      × (slice_index l.indegrees.items y ≡ 0)));
}

abbrev pub decreases-loop-number : goal.decreases-loop-number
decreases-loop-number l = l.number
