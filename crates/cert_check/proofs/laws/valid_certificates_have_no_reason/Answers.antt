use Rattle.cert_check.proofs.ReasonsExclude.{valid_or_reason}
use Rattle.cert_check.proofs.laws.valid_certificates_have_no_reason.Goals as goal

pub returns : goal.returns
returns c = valid_or_reason
