use Rattle.std.proofs.Common.{◌≡◌}
use Rattle.std.specs.Prelude.{take}
use Rattle.element_numbers.specs.Cuts.{rows_of, IsCut}
use Rattle.order_graph.specs.Emptied.{emptied_rows}
use Rattle.order_graph.proofs.emptying.rows_emptied.Given as goal

abbrev pub invariant-loop-list : goal.invariant-loop-list
invariant-loop-list l = record {
  cut : IsCut l.left;
  rows : rows_of l.left ≡ emptied_rows l.marks (take l.list (rows_of l.rows));
}
