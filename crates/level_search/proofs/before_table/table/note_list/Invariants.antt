use Rattle.std.proofs.Common.{◌≡◌, length}
use Rattle.order_graph.specs.Lists.{lists_of}
use Rattle.level_search.specs.Fronts.{IsFront}
use Rattle.level_search.proofs.before_table.table.note_list.Given as goal

abbrev pub invariant-loop-place : goal.invariant-loop-place
invariant-loop-place l = record {
  len : length l.rows ≡ length l.fn.rows;
  width : length l.front.before ≡ length l.fn.front.before;
  front : IsFront (lists_of l.graph) l.list l.place l.rows l.front;
}
