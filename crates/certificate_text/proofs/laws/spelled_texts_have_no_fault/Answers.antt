use Rattle.certificate_text.proofs.OneCertificate.{no-fault}
use Rattle.certificate_text.proofs.laws.spelled_texts_have_no_fault.Goals as goal

pub returns : goal.returns
returns c = λ text version c line cause. no-fault version c text line cause
