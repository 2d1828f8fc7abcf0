use Rattle.std.proofs.Common.{◌≡◌, ℕ, ◌<◌, ◌≤◌, length, slice_index}
use Rattle.level_search.proofs.thinning.is_held.Given as goal

abbrev pub invariant-loop-j : goal.invariant-loop-j
invariant-loop-j l = record {
  small : l.next ≤ length l.other;
  low : (p : ℕ) → p < l.j → slice_index l.places (slice_index l.list p) < l.next;
  here : (p : ℕ) → p < l.j
      → slice_index l.other (slice_index l.places (slice_index l.list p)) ≡ slice_index l.list p;
  rise : (p q : ℕ) → p < q → q < l.j
      → slice_index l.places (slice_index l.list p) < slice_index l.places (slice_index l.list q);
}
