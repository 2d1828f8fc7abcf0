use Rattle.std.proofs.Common.{◌≡◌, take, drop, subst, arith}
use Rattle.certificate.specs.ByRows.{AppendsRows}
use Rattle.certificate.proofs.RowLines.{no_rows, rows_next_from}
use Rattle.certificate.proofs.pieces.RowMaker.push_rows_by_table.Goals as goal

pub loop-i-init : goal.loop-i-init
loop-i-init c = no_rows c.args.self.now.graph.now c.args.self.now.k c.args.text.now.items

pub loop-i-preserved : goal.loop-i-preserved
loop-i-preserved c =
    rows_next_from c.args.self.now.graph.now c.args.self.now.k c.args.first c.loop-i.i 1 c.args.text.now.items
    c.loop-i.text.items c.push_row_at.new.text.items c.loop-i.invariant c.in_ok-push_row_at.ensures

pub returns : goal.returns
returns c =
    let done : c.loop-i.i ≡ c.args.count = omega arith in
    subst (λ n. AppendsRows c.args.self.now.graph.now c.args.self.now.k
    (take n (drop c.args.first c.args.self.now.graph.now.elements)) c.args.text.now.items
    c.loop-i.text.items) done c.loop-i.invariant
