use Rattle.std.proofs.Common.{◌≡◌, None}
use Rattle.specification.specs.Lines.{Line}
use Rattle.format_words.specs.Words.{words_of}
use Rattle.certificate_text.specs.Reading.{order_at}
use Rattle.certificate_text.specs.declared.fault.CertCause.TheVariants as cause
use Rattle.certificate_text.proofs.StepLines.{order-spells}
use Rattle.certificate_text.proofs.OutlineFaults.{unread-line}
use Rattle.certificate_text.proofs.OutlineTexts.{line-is}
use Rattle.certificate_text.proofs.first_lines.order_first.Goals as goal

abbrev unread : Line → Type 0
unread line = order_at (words_of line) ≡ None

pub returns-in-Ok-clause-ok : goal.returns-in-Ok-clause-ok
returns-in-Ok-clause-ok c =
    let found = c.in-Ok.ensures.ok in
    let p = order-spells _ found.0 found.1 in
    (found.0, p.0, found.2, line-is _ _ _ _ c.in_ok-line.ensures.ok.1 p.1)

pub returns-in-Err-clause-cause : goal.returns-in-Err-clause-cause
returns-in-Err-clause-cause c =
    unread-line cause.Shape unread _ _ _ c.in_ok-line.ensures.ok c.in-Err.ensures.shape
