use Rattle.std.proofs.Common.{◌≡◌, ◌++◌, take}
use Rattle.element_numbers.specs.Cuts.{rows_of, IsCut}
use Rattle.element_numbers.proofs.covering.Covering.append.Given as goal

abbrev pub invariant-loop-k : goal.invariant-loop-k
invariant-loop-k l = record {
  operations : l.self.operations.items ≡ l.fn.self.operations.items ++ l.more.operations.items;
  cut : IsCut l.self.rows;
  rows : rows_of l.self.rows ≡ rows_of l.fn.self.rows ++ take l.k (rows_of l.more.rows);
}
