use Rattle.certificate.proofs.RowLines.{row_at}
use Rattle.certificate.proofs.pieces.RowMaker.push_known_listed.Goals as goal

pub returns-clause-rows : goal.returns-clause-rows
returns-clause-rows c =
    row_at c.args.self.now.graph.now c.args.self.now.k c.args.source c.args.text.now.items
    c.push_row.new.text.items c.in_ok-row.row c.requires.known c.in_ok-row.ensures.row
    c.in_ok-push_row.ensures
