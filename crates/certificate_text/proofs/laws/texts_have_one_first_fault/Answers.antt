use Rattle.certificate_text.proofs.OneFault.{one-fault}
use Rattle.certificate_text.proofs.laws.texts_have_one_first_fault.Goals as goal

pub returns : goal.returns
returns c = one-fault
