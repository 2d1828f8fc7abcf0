use Rattle.std.proofs.Common.{◌≡◌, ◌*◌, take}
use Rattle.certificate.specs.ByRows.{AppendsRows, joined}
use Rattle.certificate.specs.Ways.{IsWay}
use Rattle.certificate.proofs.pieces.RowMaker.push_in_pieces.Given as goal

abbrev pub invariant-loop-batch : goal.invariant-loop-batch
invariant-loop-batch g l = record {
  graph : l.self.graph.now ≡ l.fn.self.graph.now;
  k : l.self.k ≡ l.fn.self.k;
  way : IsWay l.self.graph.now l.self.way;
  rows : AppendsRows l.fn.self.graph.now l.fn.self.k (take (l.batch * 5120) l.fn.self.graph.now.elements)
      (joined l.fn.texts.items) (joined l.texts.items);
}
