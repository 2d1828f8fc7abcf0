use Rattle.std.proofs.Common.{◌≡◌, length, refl, arith}
use Rattle.certificate_text.specs.CertificateOf.{version_in}
use Rattle.certificate_text.proofs.GoingOn.{no-more-of-two}
use Rattle.certificate_text.proofs.cycle.Cycle.with_line.Goals as goal

pub returns-then-self-eq2-clause-fault : goal.returns-then-self-eq2-clause-fault
returns-then-self-eq2-clause-fault c =
    let cycle = c.args.self in
    let whole : length cycle.steps.items ≡ cycle.k = omega (arith, c.requires.few) in (
      refl,
      no-more-of-two (version_in cycle.version) cycle.k cycle.steps.items cycle.rows.items
          c.args.line.now c.requires whole c.if-self-eq2.true,
    )
