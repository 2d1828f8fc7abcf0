use Rattle.std.proofs.Common.{◌≡◌, length, take}
use Rattle.order_graph.specs.Lists.{lists_of}
use Rattle.bit_tables.specs.Lists.{HasList, IsTableOf}
use Rattle.certificate.proofs.rows.after_table.Given as goal

abbrev pub invariant-loop-i : goal.invariant-loop-i
invariant-loop-i l = record {
  table : IsTableOf (length l.graph.elements) (take l.i (lists_of l.graph)) l.table;
  noter : l.noter ≡ length l.graph.elements;
  known : HasList l.table l.known;
}
