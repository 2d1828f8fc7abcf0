use Rattle.certificate_text.proofs.laws.certificates_are_valid.Goals as goal
use Rattle.certificate_text.proofs.VerdictCertificates as law

pub returns : goal.returns
returns c = law.certificates_are_valid
