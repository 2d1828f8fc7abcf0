use Rattle.std.proofs.Common.{ℕ, ◌<◌, ◌≤◌, slice_index}
use Rattle.list_rule.proofs.passing.are_at_most.Given as goal

abbrev pub invariant-loop-j : goal.invariant-loop-j
invariant-loop-j l = (k : ℕ) → l.from ≤ k → k < l.j → l.first ≤ slice_index l.list k
    → slice_index l.depths (slice_index l.list k) ≤ l.bound
