use Rattle.std.proofs.Common.{arith}
use Rattle.certificate.proofs.RowLines.{no_row_at}
use Rattle.certificate.proofs.pieces.RowMaker.push_listed_at.Goals as goal

pub returns-clause-rows : goal.returns-clause-rows
returns-clause-rows c =
    no_row_at c.args.self.now.graph.now c.args.self.now.k c.args.source c.args.text.now.items (omega arith)
