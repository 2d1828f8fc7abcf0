use Rattle.std.proofs.Common.{◌∷◌, [], codes, refl, sym, ap, ◌∙◌, subst}
use Rattle.format_words.specs.Words.{words_of}
use Rattle.std.proofs.Common.{IfSome}
use Rattle.specification.specs.CertificateText as format
use Rattle.specification.specs.CertificateText.{version_line}
use Rattle.certificate_text.specs.declared.fault.CertCause.{CertCause}
use Rattle.certificate_text.specs.declared.fault.CertCause.TheVariants as cause
use Rattle.certificate_text.specs.CertificateOf.{version_in, cause_of}
use Rattle.certificate_text.specs.Progress.{IsWrongBehind}
use Rattle.format_words.specs.Reading.{HasSome}
use Rattle.certificate_text.proofs.FirstFaults.{stop-fault, stop-takes}
use Rattle.certificate_text.proofs.TakingLines.{order-takes}
use Rattle.specification.specs.Lines.{Line}
use Rattle.certificate_text.specs.Reading.{order_at}
use Rattle.certificate_text.proofs.StepLines.{order-spells}
use Rattle.certificate_text.proofs.GoingOn.{no-order}
use Rattle.certificate_text.proofs.progress.ordered.Goals as goal

pub returns-in-Ok-clause-ok : goal.returns-in-Ok-clause-ok
returns-in-Ok-clause-ok c =
    let p = order-spells c.args.line.now c.in-Ok.order c.in-Ok.ensures in
    (p.0, ap (λ (l : Line). version_line (version_in c.args.version) ∷ codes "accepted" ∷ l ∷ []) (sym p.1))

pub returns-in-Err-clause-fault : goal.returns-in-Err-clause-fault
returns-in-Err-clause-fault c =
    let behind : format.CertCause → Type 0 =
    IsWrongBehind (version_line (version_in c.args.version) ∷ codes "accepted" ∷ []) c.args.line.now in
    subst (λ (e : CertCause). IfSome (cause_of e) behind) (sym c.cause_of_stop.ensures)
    (stop-fault HasSome cause.Shape c.in-Err.stop (order_at (words_of c.args.line.now)) behind
    c.in-Err.ensures (λ none. (refl, no-order (version_in c.args.version) c.args.line.now none)))

pub returns-in-Err-clause-memory : goal.returns-in-Err-clause-memory
returns-in-Err-clause-memory c =
    λ is. order-takes (version_in c.args.version) c.args.line.now
    (stop-takes HasSome cause.Shape c.in-Err.stop (order_at (words_of c.args.line.now))
    (λ e. cc) c.in-Err.ensures (sym c.cause_of_stop.ensures ∙ is))
