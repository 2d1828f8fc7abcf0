use Rattle.cert_check.proofs.FinderGetsYes.{finder_gets_yes}
use Rattle.cert_check.proofs.laws.verdicts_certificates_get_yes.Goals as goal

pub returns : goal.returns
returns c = finder_gets_yes
