use Rattle.std.proofs.Common.{◌≡◌, ◌-◌, ◌≤◌, ◌<◌, ℕ, slice_index}
use Rattle.events.proofs.response.same_names.same_within.Given as goal

abbrev pub invariant-lanes : goal.invariant-lanes
invariant-lanes l = record {
  within : l.same ≤ l.most;
  same : (k : ℕ) → k < l.same → slice_index l.a k ≡ slice_index l.b k;
}

abbrev pub decreases-lanes : goal.decreases-lanes
decreases-lanes l = l.most - l.same
