use Rattle.std.proofs.Common.{arith}
use Rattle.certificate.proofs.RowLines.{no_row_at}
use Rattle.certificate.proofs.pieces.RowMaker.push_row_at.Goals as goal

pub returns : goal.returns
returns c =
    no_row_at c.args.self.now.graph.now c.args.self.now.k c.args.source c.args.text.now.items (omega arith)
