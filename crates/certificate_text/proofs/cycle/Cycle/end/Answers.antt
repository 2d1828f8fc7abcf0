use Rattle.std.proofs.Common.{◌<◌, length, refl, arith}
use Rattle.certificate_text.specs.CertificateOf.{version_in}
use Rattle.certificate_text.proofs.GoingOn.{lacks-step}
use Rattle.certificate_text.proofs.cycle.Cycle.end.Goals as goal

pub returns-then-len-self-clause-fault : goal.returns-then-len-self-clause-fault
returns-then-len-self-clause-fault c =
    let cycle = c.args.self in
    let less : length cycle.steps.items < cycle.k = omega arith in
    (refl, lacks-step (version_in cycle.version) cycle.k cycle.steps.items cycle.rows.items c.requires less)
