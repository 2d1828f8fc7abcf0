use Rattle.std.proofs.Common.{◌≡◌, ℕ, ◌<◌, ◌+◌, ◌/◌, length}
use Rattle.bit_tables.specs.Sets.{Has}
use Rattle.bit_tables.specs.Lists.{HaveWidth, row_of}
use Rattle.bit_tables.proofs.table.empty_rows.Given as goal

abbrev pub invariant-rows : goal.invariant-rows
invariant-rows l = record {
  len : length l.rows.items ≡ l._i;
  width : HaveWidth (l.n / 64 + 1) l.rows.items;
  none : (a b : ℕ) → a < length l.rows.items → ¬ Has (row_of l.rows.items a) b;
}
