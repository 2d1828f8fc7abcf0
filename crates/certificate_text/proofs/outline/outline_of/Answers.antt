use Rattle.certificate_text.specs.CertificateOf.{version_in}
use Rattle.certificate_text.proofs.OutlineFaults.{version-fault, headed-fault}
use Rattle.certificate_text.proofs.OutlineTexts.{headed-text}
use Rattle.certificate_text.proofs.outline.outline_of.Goals as goal

pub returns-in-Ok-behind_version-clause-ok : goal.returns-in-Ok-behind_version-clause-ok
returns-in-Ok-behind_version-clause-ok c =
    let made = c.in-Ok-behind_version.ensures.ok in
    let version = version_in c.in-Ok.version in (
      made.0,
      (made.1, headed-text version made.0 c.args.bytes.now c.in-Ok.rest.now c.in-Ok.ensures.ok made.2),
      made.3,
    )

pub returns-in-Err-behind_version-clause-fault : goal.returns-in-Err-behind_version-clause-fault
returns-in-Err-behind_version-clause-fault c =
    (headed-fault (version_in c.in-Ok.version) c.args.bytes.now c.in-Ok.rest.now
    c.in-Err-behind_version.fault.line c.in-Err-behind_version.fault.cause c.in-Ok.ensures.ok
    c.in-Err-behind_version.ensures.fault).0

pub returns-in-Err-behind_version-clause-memory : goal.returns-in-Err-behind_version-clause-memory
returns-in-Err-behind_version-clause-memory c =
    (headed-fault (version_in c.in-Ok.version) c.args.bytes.now c.in-Ok.rest.now
    c.in-Err-behind_version.fault.line c.in-Err-behind_version.fault.cause c.in-Ok.ensures.ok
    c.in-Err-behind_version.ensures.fault).1

pub returns-in-Err-clause-fault : goal.returns-in-Err-clause-fault
returns-in-Err-clause-fault c = (version-fault c.args.bytes.now c.in-Err.cause c.in-Err.ensures.cause).0

pub returns-in-Err-clause-memory : goal.returns-in-Err-clause-memory
returns-in-Err-clause-memory c = (version-fault c.args.bytes.now c.in-Err.cause c.in-Err.ensures.cause).1
