use Rattle.std.proofs.Common.{◌≡◌, length}
use Rattle.bit_tables.specs.Lists.{HasList, HaveWidth}
use Rattle.bit_tables.proofs.tests.tables.try_table.Given as goal

abbrev pub invariant-loop-numbers : goal.invariant-loop-numbers
invariant-loop-numbers l = record {
  len : length l.table ≡ 70;
  width : HaveWidth 2 l.table;
  noter : l.noter ≡ 70;
  known : HasList l.table l.known.items;
}
