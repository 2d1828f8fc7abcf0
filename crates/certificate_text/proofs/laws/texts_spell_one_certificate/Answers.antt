use Rattle.certificate_text.proofs.laws.texts_spell_one_certificate.Goals as goal
use Rattle.certificate_text.proofs.OneCertificate.{one-certificate}

pub returns : goal.returns
returns c = one-certificate
