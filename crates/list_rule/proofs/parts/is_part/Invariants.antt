use Rattle.std.proofs.Common.{◌≡◌, ℕ, ◌<◌, ◌≤◌, length, slice_index}
use Rattle.list_rule.proofs.parts.is_part.Given as goal

abbrev pub invariant-loop-y : goal.invariant-loop-y
invariant-loop-y l = record {
  within : l.found ≤ length l.list;
  each : (i : ℕ) → i < l.found
      → (k : ℕ) × (k < l.y-index) × (slice_index l.whole k ≡ slice_index l.list i);
  both : (i j : ℕ) → i < j → j < l.found
      → (k : ℕ) × (m : ℕ) × (k < m) × (m < l.y-index) × (slice_index l.whole k ≡ slice_index l.list i)
      × (slice_index l.whole m ≡ slice_index l.list j);
}
