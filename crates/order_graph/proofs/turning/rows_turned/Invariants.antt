use Rattle.std.proofs.Common.{◌≡◌, map, take}
use Rattle.std.specs.Prelude.{reverse}
use Rattle.element_numbers.specs.Cuts.{rows_of, IsCut}
use Rattle.order_graph.proofs.turning.rows_turned.Given as goal

abbrev pub invariant-loop-list : goal.invariant-loop-list
invariant-loop-list l = record {
  cut : IsCut l.turned;
  rows : rows_of l.turned ≡ map reverse (take l.list (rows_of l.rows));
}
