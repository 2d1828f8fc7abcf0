use Rattle.std.proofs.Common.{◌≡◌, length}
use Rattle.bit_tables.specs.Included.{AreIncluded}
use Rattle.bit_tables.proofs.table.included_in.Given as goal

abbrev pub invariant-loop-x : goal.invariant-loop-x
invariant-loop-x l = record {
  len : length l.included.items ≡ l.x;
  are : AreIncluded l.rows l.included.items;
}
