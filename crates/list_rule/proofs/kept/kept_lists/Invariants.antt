use Rattle.std.proofs.Common.{ℕ, ◌<◌, length}
use Rattle.std.specs.Prelude.{Contains}
use Rattle.bit_tables.specs.Lists.{HasInOrder}
use Rattle.element_numbers.specs.Cuts.{rows_of}
use Rattle.list_rule.specs.Spots.{IsShownBy, row}
use Rattle.list_rule.proofs.kept.kept_lists.Given as goal

abbrev pub invariant-loop-list : goal.invariant-loop-list
invariant-loop-list l = record {
  known : (m : ℕ) → Contains l.kept.items m → m < length (rows_of l.places);
  shown : (m a b : ℕ) → m < l.list → HasInOrder (row (rows_of l.places) m) a b
      → IsShownBy (rows_of l.places) l.kept.items a b;
}
