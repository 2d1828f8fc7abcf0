use Rattle.std.proofs.Common.{codes, refl}
use Rattle.specification.specs.Lines.{order_line}
use Rattle.specification.specs.CertificateText.{gives_order}
use Rattle.certificate_text.proofs.OutlineFaults.{order-fault, ordered-fault}
use Rattle.certificate_text.proofs.OutlineTexts.{two-lines-text}
use Rattle.certificate_text.proofs.outline.order.Goals as goal

pub returns-in-Ok-end_first-clause-ok : goal.returns-in-Ok-end_first-clause-ok
returns-in-Ok-end_first-clause-ok c =
    let found = c.in-Ok.ensures.ok in (
      gives_order found.0,
      found.1,
      two-lines-text (codes "accepted") (order_line found.0) c.args.text.now c.in-Ok.rest.now found.3
          c.in-Ok-end_first.ensures.ok,
      (found.0, refl, found.2),
    )

pub returns-in-Err-end_first-clause-fault : goal.returns-in-Err-end_first-clause-fault
returns-in-Err-end_first-clause-fault c = λ version.
    let found = c.in-Ok.ensures.ok in
    ordered-fault version found.0 c.args.text.now c.in-Ok.rest.now c.in-Err-end_first.cause found.1 found.3
    c.in-Err-end_first.ensures.some c.in-Err-end_first.ensures.cause

pub returns-in-Err-clause-fault : goal.returns-in-Err-clause-fault
returns-in-Err-clause-fault c =
    λ version. order-fault version c.args.text.now c.in-Err.cause c.in-Err.ensures.cause
