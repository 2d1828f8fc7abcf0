use Rattle.std.proofs.Common.{◌≡◌, ℕ, ◌<◌, ◌≤◌, ◌⊎◌, slice_index}
use Rattle.list_search.specs.Distances.{IsAmong}
use Rattle.list_search.proofs.searching.distance.note_level.Given as goal

abbrev pub invariant-loop-k : goal.invariant-loop-k
invariant-loop-k l = record {
  falls : (x : ℕ) → slice_index l.depths x ≤ slice_index l.fn.depths x;
  noted : (i : ℕ) → l.head ≤ i → i < l.k → slice_index l.depths (slice_index l.queue i) ≤ l.level;
  others : (x : ℕ) → (slice_index l.depths x ≡ slice_index l.fn.depths x)
      ⊎ ((slice_index l.depths x ≡ l.level) × IsAmong l.queue l.head l.k x);
}
