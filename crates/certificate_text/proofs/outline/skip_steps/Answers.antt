use Rattle.std.proofs.Common.{◌<◌, ◌^◌, ◌++◌, ◌∷◌, [], refl, arith, length-append}
use Rattle.std.proofs.lemmas.List.Elements.{All-nil, All-push}
use Rattle.specification.specs.CertificateText.{IsStep, step_line}
use Rattle.certificate_text.proofs.OutlineFaults.{step-fault}
use Rattle.certificate_text.proofs.OutlineTexts.{one-more}
use Rattle.certificate_text.proofs.outline.skip_steps.Goals as goal

pub loop-i-init : goal.loop-i-init
loop-i-init c = ([], refl, All-nil IsStep, refl)

pub loop-i-preserved : goal.loop-i-preserved
loop-i-preserved c =
    let so_far = c.loop-i.invariant in
    let next = c.in-Ok.ensures.ok in (
      so_far.0 ++ next.0 ∷ [],
      omega (arith, so_far.1, length-append so_far.0 (next.0 ∷ [])),
      All-push IsStep so_far.0 next.0 so_far.2 next.1,
      one-more step_line so_far.0 next.0 c.args.text.now c.loop-i.rest.now _ so_far.3 next.2,
    )

pub returns-in-Err-clause-fault : goal.returns-in-Err-clause-fault
returns-in-Err-clause-fault c = λ version.
    let so_far = c.loop-i.invariant in
    let high : c.args.k < 2 ^ 32 = omega arith in
    step-fault version c.args.k so_far.0 c.args.text.now c.loop-i.rest.now _ c.in-Err.cause c.requires high
    (omega (arith, so_far.1, c.loop-i-test.true)) so_far.2
    (omega (arith, so_far.1)) so_far.3 c.in-Err.ensures.cause

pub returns-clause-ok : goal.returns-clause-ok
returns-clause-ok c =
    let all = c.loop-i.invariant in (all.0, omega (arith, all.1, c.loop-i-test.false), all.2, all.3)
