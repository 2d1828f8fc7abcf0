use Rattle.certificate_text.proofs.OneCertificate.{one-certificate}
use Rattle.cert_check.proofs.ReasonsExclude.{get_yes}
use Rattle.cert_check.proofs.laws.valid_certificates_get_yes.Goals as goal

pub returns : goal.returns
returns c = get_yes one-certificate
