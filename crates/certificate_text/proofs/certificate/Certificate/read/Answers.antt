use Rattle.certificate_text.proofs.OneCertificate.{read-back}
use Rattle.certificate_text.proofs.certificate.Certificate.read.Goals as goal

pub returns-clause-spelled : goal.returns-clause-spelled
returns-clause-spelled c =
    read-back c.args.bytes.now c.read_lines.result c.read_lines.ensures.ok c.read_lines.ensures.fault
