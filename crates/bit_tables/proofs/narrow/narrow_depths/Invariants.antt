use Rattle.std.proofs.Common.{◌≡◌, ℕ, ◌<◌, slice_index, vec_len}
use Rattle.bit_tables.specs.Narrow.{StandsFor}
use Rattle.bit_tables.proofs.narrow.narrow_depths.Given as goal

abbrev pub invariant-loop-x : goal.invariant-loop-x
invariant-loop-x l = record {
  len : vec_len l.small ≡ l.x;
  stands : (k : ℕ) → k < l.x
      → StandsFor l.wide.items l.narrow.items (slice_index l.depths k) (slice_index l.small.items k);
}
