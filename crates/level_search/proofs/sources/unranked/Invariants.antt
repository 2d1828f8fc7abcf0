use Rattle.std.proofs.Common.{◌≡◌, ℕ, ◌<◌, ◌≤◌, length, slice_index}
use Rattle.std.specs.Prelude.{All, AllPairs, Contains}
use Rattle.level_search.specs.Sources.{UNRANKED}
use Rattle.level_search.proofs.sources.unranked.Given as goal

abbrev pub invariant-loop-x : goal.invariant-loop-x
invariant-loop-x l = record {
  rising : AllPairs (λ x y. x < y) l.elements.items;
  below : All (λ s. s < l.x) l.elements.items;
  known : All (λ s. s < length l.ranks) l.elements.items;
  few : length l.elements.items ≤ l.x;
  only : All (λ s. slice_index l.ranks s ≡ UNRANKED) l.elements.items;
  all : (y : ℕ) → y < l.x → slice_index l.ranks y ≡ UNRANKED → Contains l.elements.items y;
}
