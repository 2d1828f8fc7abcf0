-- The steps are a cycle's, and the rows decide for k of 3 and more.
use Rattle.std.proofs.Common.{refl, arith}
use Rattle.certificate_text.specs.CertificateOf.{version_in}
use Rattle.cert_check.proofs.StepTexts.{right_steps}
use Rattle.cert_check.proofs.StepsRight.{all_right}
use Rattle.cert_check.proofs.RowsJudged.{judged_no}
use Rattle.cert_check.proofs.cycle.judge_cycle.Goals as goal

pub returns-then-k-lt3 : goal.returns-then-k-lt3
returns-then-k-lt3 c = λ steps rows spellable lines row_lines.
    let right =
    right_steps c.args.recording.now c.args.steps.now c.args.k steps spellable.3 lines
    (c.in_default.ensures spellable.0) in (
      (
        c.requires.sound,
        all_right c.args.recording.now steps right,
        spellable.2,
        (λ le. absurd (omega (arith, c.if-k-lt3.true))),
      ),
      refl,
    )

pub returns-in-None : goal.returns-in-None
returns-in-None c = λ steps rows spellable lines row_lines.
    let right =
    right_steps c.args.recording.now c.args.steps.now c.args.k steps spellable.3 lines
    (c.in_default.ensures spellable.0) in
    let judged = rw c.in-None.is at c.in_ok-rows_fault.ensures in (
      (
        c.requires.sound,
        all_right c.args.recording.now steps right,
        spellable.2,
        (λ le. judged rows spellable.5 row_lines c.args.recording.now c.of-numbered.ensures),
      ),
      refl,
    )

pub returns : goal.returns
returns c = λ steps rows spellable lines row_lines.
    let right =
    right_steps c.args.recording.now c.args.steps.now c.args.k steps spellable.3 lines
    (c.in_default.ensures spellable.0) in
    let fault = rw c.in-Some-2.is at c.in_ok-rows_fault.ensures in
    judged_no (version_in c.args.version) c.args.recording.now c.args.k steps rows c.in-Some-2.why
    c.requires.sound
    (all_right c.args.recording.now steps right) (omega (arith, c.if-k-lt3.false))
    (fault rows spellable.5 row_lines c.args.recording.now c.of-numbered.ensures)
