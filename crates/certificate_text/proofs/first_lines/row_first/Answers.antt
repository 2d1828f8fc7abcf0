use Rattle.std.proofs.Common.{◌≡◌, None}
use Rattle.specification.specs.Lines.{Line}
use Rattle.format_words.specs.Words.{words_of}
use Rattle.certificate_text.specs.Reading.{row_at}
use Rattle.certificate_text.specs.declared.fault.CertCause.TheVariants as cause
use Rattle.certificate_text.proofs.OutlineFaults.{unread-line}
use Rattle.certificate_text.proofs.OutlineTexts.{line-is, row-told, untold, shorter-rest}
use Rattle.certificate_text.proofs.first_lines.row_first.Goals as goal

pub returns-then-is_row-clause-ok : goal.returns-then-is_row-clause-ok
returns-then-is_row-clause-ok c =
    let p = row-told c.args.k _ c.is_row.result c.is_row.ensures c.if-is_row.true in
    (p.0, p.1, line-is _ _ _ _ c.in_ok-line.ensures.ok.1 p.2)

pub returns-then-is_row-clause-shorter : goal.returns-then-is_row-clause-shorter
returns-then-is_row-clause-shorter c = shorter-rest _ _ _ c.in_ok-line.ensures.ok.1

pub returns-else-is_row-clause-cause : goal.returns-else-is_row-clause-cause
returns-else-is_row-clause-cause c =
    unread-line cause.Shape (λ (line : Line). row_at c.args.k (words_of line) ≡ None) _ _ _
    c.in_ok-line.ensures.ok (untold c.is_row.result _ c.is_row.ensures c.if-is_row.false)
