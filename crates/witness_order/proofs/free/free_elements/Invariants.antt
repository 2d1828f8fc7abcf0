use Rattle.std.proofs.Common.{◌≡◌, ℕ, ◌<◌, ◌↔◌, Contains, slice_index}
use Rattle.witness_order.proofs.free.free_elements.Given as goal

abbrev pub invariant-loop-x : goal.invariant-loop-x
invariant-loop-x l = (x : ℕ) → Contains l.free.keys x ↔ ((x < l.x) × (slice_index l.indegrees x ≡ 0))
