use Rattle.std.proofs.Common.{◌≡◌, map, take}
use Rattle.element_numbers.specs.Cuts.{rows_of, IsCut}
use Rattle.order_graph.specs.Renumbered.{numbers_left}
use Rattle.order_graph.proofs.narrowing.places_left.Given as goal

abbrev pub invariant-loop-list : goal.invariant-loop-list
invariant-loop-list l = record {
  cut : IsCut l.left;
  rows : rows_of l.left ≡ map (numbers_left l.anew) (take l.list (rows_of l.places));
}
