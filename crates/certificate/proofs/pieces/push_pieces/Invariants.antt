use Rattle.std.proofs.Common.{◌≡◌, ◌*◌, take, drop, length}
use Rattle.certificate.specs.ByRows.{AppendsRows, joined}
use Rattle.certificate.proofs.RowLines.{AreLeft}
use Rattle.certificate.proofs.pieces.push_pieces.Given as goal

abbrev pub invariant-loop-piece : goal.invariant-loop-piece
invariant-loop-piece l = record {
  slots : length l.made ≡ 512;
  added : AppendsRows l.graph l.k (take (10 * l.piece) (drop l.first l.graph.elements))
      (joined l.fn.texts.items) (joined l.texts.items);
  left : AreLeft l.graph l.k l.first l.piece l.made;
}
