use Rattle.std.proofs.Common.{ℕ, ◌<◌, ◌≤◌, ◌*◌, length, slice_index}
use Rattle.std.specs.Prelude.{All}
use Rattle.bit_tables.proofs.NarrowLemmas.{IsNarrowedTo}
use Rattle.bit_tables.proofs.narrow.narrowed.Given as goal

abbrev pub invariant-loop-i : goal.invariant-loop-i
invariant-loop-i l = record {
  last : (j : ℕ) → l.i ≤ j → j < length l.wide → l.last ≤ slice_index l.wide j;
  below : l.small ≤ l.last;
  few : l.small ≤ 2 * l.i;
  each : All (λ x. x ≤ 2 * length l.wide) l.narrow.items;
  narrowed : IsNarrowedTo l.wide l.i l.narrow.items l.last l.small;
}
