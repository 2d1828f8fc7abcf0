use Rattle.certificate_text.specs.declared.fault.CertCause.TheVariants as cause
use Rattle.specification.specs.Lines.{Line}
use Rattle.certificate_text.proofs.OutlineFaults.{unread-line}
use Rattle.certificate_text.proofs.first_lines.end_first.Goals as goal

pub returns-in-Ok-clause-cause : goal.returns-in-Ok-clause-cause
returns-in-Ok-clause-cause c = unread-line cause.Shape (λ (line : Line). Unit {0}) _ _ _ c.in-Ok.ensures.ok tt
