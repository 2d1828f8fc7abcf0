use Rattle.std.proofs.Common.{◌≡◌, ◌*◌, take}
use Rattle.certificate.specs.ByRows.{AppendsRows}
use Rattle.certificate.specs.Ways.{IsWay}
use Rattle.certificate.proofs.pieces.RowMaker.push_rows.Given as goal

abbrev pub invariant-loop-batch : goal.invariant-loop-batch
invariant-loop-batch l = record {
  graph : l.self.graph.now ≡ l.fn.self.graph.now;
  k : l.self.k ≡ l.fn.self.k;
  way : IsWay l.self.graph.now l.self.way;
  rows : AppendsRows l.fn.self.graph.now l.fn.self.k (take (l.batch * 5120) l.fn.self.graph.now.elements)
      l.fn.text.items l.text.items;
}
