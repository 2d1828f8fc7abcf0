use Rattle.std.proofs.Common.{◌≡◌, ℕ, ◌<◌, ◌≤◌, true, false, length, slice_index_or}
use Rattle.std.specs.Prelude.{All, AllPairs, Contains}
use Rattle.level_search.proofs.components.marked.Given as goal

abbrev pub invariant-loop-x : goal.invariant-loop-x
invariant-loop-x l = record {
  rising : AllPairs (λ x y. x < y) l.places.items;
  below : All (λ s. s < l.x) l.places.items;
  known : All (λ s. s < length l.marks) l.places.items;
  few : length l.places.items ≤ l.x;
  only : All (λ s. slice_index_or l.marks s false ≡ true) l.places.items;
  all : (y : ℕ) → y < l.x → slice_index_or l.marks y false ≡ true → Contains l.places.items y;
}
