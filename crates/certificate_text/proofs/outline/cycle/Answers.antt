use Rattle.std.proofs.Common.{◌<◌, ◌^◌, map, refl, ◌∙◌, arith}
use Rattle.specification.specs.Lines.{text_of}
use Rattle.specification.specs.CertificateText.{gives_cycle, step_line}
use Rattle.certificate_text.specs.Progress.{kind_line}
use Rattle.certificate_text.specs.declared.kind.Kind.TheVariants as kind
use Rattle.certificate_text.proofs.OutlineFaults.{fault-after-steps}
use Rattle.certificate_text.proofs.OutlineTexts.{cycle-text, front-text}
use Rattle.certificate_text.proofs.outline.cycle.Goals as goal

pub returns-in-Ok-check_rows-clause-ok : goal.returns-in-Ok-check_rows-clause-ok
returns-in-Ok-check_rows-clause-ok c =
    let steps = c.in-Ok.ensures.ok in
    let rows = c.in-Ok-check_rows.ensures.ok in
    let high : c.args.k < 2 ^ 32 = omega arith in (
      gives_cycle c.args.k steps.0 rows.0,
      (c.requires, high, steps.1, steps.2, rows.1, rows.2),
      cycle-text (kind_line (kind.Refused c.args.k)) steps.0 rows.0 c.args.text.now _ steps.3 rows.3,
      (
        steps.0,
        rows.0,
        refl,
        c.split_at.ensures.front
            ∙ front-text (text_of (map step_line steps.0)) c.args.text.now _ _ steps.3 refl,
        rows.3,
      ),
    )

pub returns-in-Err-check_rows-clause-fault : goal.returns-in-Err-check_rows-clause-fault
returns-in-Err-check_rows-clause-fault c = λ version.
    let steps = c.in-Ok.ensures.ok in
    let fault = c.in-Err-check_rows.fault in
    fault-after-steps version c.args.k steps.0 c.args.text.now _ fault.line fault.cause steps.3
    (c.in-Err-check_rows.ensures.fault version steps.0 steps.1 steps.2)
