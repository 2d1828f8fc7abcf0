use Rattle.std.proofs.Common.{◌≡◌, length, take}
use Rattle.bit_tables.specs.Lists.{HasList, IsTableOf}
use Rattle.cert_check.specs.Numbering.{lists_of}
use Rattle.cert_check.proofs.ways.after_table.Given as goal

abbrev pub invariant-loop-i : goal.invariant-loop-i
invariant-loop-i l = record {
  table : IsTableOf (length l.numbered.names.items) (take l.i (lists_of l.numbered)) l.table;
  noter : l.noter ≡ length l.numbered.names.items;
  known : HasList l.table l.known;
}
