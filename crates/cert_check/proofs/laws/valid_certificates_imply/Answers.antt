use Rattle.cert_check.proofs.Implied.{implied}
use Rattle.cert_check.proofs.laws.valid_certificates_imply.Goals as goal

pub returns : goal.returns
returns c = implied
