use Rattle.std.proofs.Common.{◌≡◌, ℕ, ◌<◌, ◌≤◌, slice_index, vec_len}
use Rattle.list_layers.specs.Progress.{Grows, IsSeen, StandsWithin}
use Rattle.list_layers.proofs.sweep.read.Given as goal

abbrev pub invariant-loop-j : goal.invariant-loop-j
invariant-loop-j l = record {
  places : vec_len l.seen ≡ vec_len l.fn.seen;
  grows : Grows (StandsWithin l.list l.from l.to) l.first l.fn.seen.items l.fn.next.items l.seen.items
      l.next.items;
  seen : (k : ℕ) → l.from ≤ k → k < l.j → l.first ≤ slice_index l.list k
      → IsSeen l.seen.items (slice_index l.list k);
}
