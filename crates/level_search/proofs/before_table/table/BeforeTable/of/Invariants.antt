use Rattle.std.proofs.Common.{◌≡◌, ◌+◌, ◌/◌, length}
use Rattle.order_graph.specs.Lists.{lists_of}
use Rattle.level_search.specs.Fronts.{IsBetween}
use Rattle.level_search.proofs.before_table.table.BeforeTable.of.Given as goal

abbrev pub invariant-loop-list : goal.invariant-loop-list
invariant-loop-list l = record {
  len : length l.rows.items ≡ length l.graph.elements;
  width : length l.front.before ≡ length l.graph.elements / 64 + 1;
  between : IsBetween (lists_of l.graph) l.list l.rows.items l.front;
}
