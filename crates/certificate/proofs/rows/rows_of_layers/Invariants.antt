use Rattle.std.proofs.Common.{take}
use Rattle.specification.specs.Versions.{two}
use Rattle.specification.specs.ExactRows.{AreExactRows}
use Rattle.certificate.specs.Ways.{IsWay}
use Rattle.certificate.proofs.rows.rows_of_layers.Given as goal

abbrev pub invariant-loop-source : goal.invariant-loop-source
invariant-loop-source l = record {
  way : IsWay l.graph l.way;
  rows : AreExactRows two l.graph l.k (take l.source l.graph.elements) l.rows.items;
}
