use Rattle.std.proofs.Common.{◌≡◌, ℕ, ◌<◌, ◌≤◌, ◌⊎◌, slice_index}
use Rattle.level_search.specs.Rounds.{IsBetween}
use Rattle.level_search.proofs.cycles.first.first_between.Given as goal

abbrev pub invariant-loop-i : goal.invariant-loop-i
invariant-loop-i l = record {
  falls : l.least ≤ l.element;
  found : (l.least ≡ l.element)
      ⊎ IsBetween l.distances.to.depths.items l.distances.from.depths.items l.k l.least;
  seen : (j : ℕ) → j < l.i
      → IsBetween l.distances.to.depths.items l.distances.from.depths.items l.k
      (slice_index l.distances.from.reached.items j) → l.least ≤ slice_index l.distances.from.reached.items j;
}
