use Rattle.std.proofs.Common.{refl}
use Rattle.certificate_text.specs.CertificateOf.{version_in}
use Rattle.certificate_text.proofs.GoingOn.{refused-alone}
use Rattle.certificate_text.proofs.progress.fault_alone.Goals as goal

pub returns-in-Refused-clause-fault : goal.returns-in-Refused-clause-fault
returns-in-Refused-clause-fault c =
    (refl, refused-alone (version_in c.args.version) c.args.kind c.in-Refused.k c.requires c.in-Refused.is)
