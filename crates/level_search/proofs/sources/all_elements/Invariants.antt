use Rattle.std.proofs.Common.{ℕ, ◌<◌, ◌≤◌, length}
use Rattle.std.specs.Prelude.{All, Contains}
use Rattle.level_search.proofs.sources.all_elements.Given as goal

abbrev pub invariant-loop-x : goal.invariant-loop-x
invariant-loop-x l = record {
  known : All (λ s. s < length l.graph.elements) l.elements.items;
  few : length l.elements.items ≤ l.x;
  all : (y : ℕ) → y < l.x → Contains l.elements.items y;
}
