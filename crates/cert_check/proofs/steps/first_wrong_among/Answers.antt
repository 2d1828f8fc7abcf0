-- Each step that is read is judged beside the one before it, and the last beside the first.
use Rattle.std.proofs.Common.{◌≡◌, ◌∙◌, ◌<◌, [], length, refl, subst, arith}
use Rattle.std.proofs.lemmas.Bool.{false≢true}
use Rattle.specification.specs.Responses.{responses_of}
use Rattle.specification.specs.ValidCertificate.{IsFirstWrongStep}
use Rattle.certificate_text.proofs.OutlineTexts.{empty-is}
use Rattle.cert_check.proofs.StepTexts.{start-of, no-start, read-next, no-next, none-left, some-left, before}
use Rattle.cert_check.proofs.StepTexts.{last, step-next, wrong-at, all-at, said-first, said-next, said-all}
use Rattle.cert_check.proofs.steps.first_wrong_among.Goals as goal
use Rattle.cert_check.proofs.steps.first_wrong_among.Goals.{else-is_empty-via-then-is_empty+else-is_right_step-2}
use Rattle.cert_check.proofs.steps.first_wrong_among.Goals.{else-is_empty-via-else-is_empty}

pub returns-in_default : goal.returns-in_default
returns-in_default c = λ two steps size each text.
    absurd (no-start c.args.recording.now c.args.lines.now steps
    (omega (arith, two, size)) each text c.in_default.ensures)

pub loop-i-init : goal.loop-i-init
loop-i-init c = (
  said-first c.args.lines.now _ c.in-Some.after_first.now c.in-Some.ensures,
  λ two steps size each text. start-of c.args.recording.now c.args.lines.now steps _ _
      (omega (arith, two, size)) each text c.in-Some.ensures,
)

pub returns-in_default-first_step : goal.returns-in_default-first_step
returns-in_default-first_step c = λ two steps size each text.
    let so = c.loop-i.invariant.1 two steps size each text in
    let lt : c.loop-i.i < length steps = omega (arith, size, c.loop-i-test.true) in
    let got =
    read-next c.args.recording.now steps _ _ _ c.loop-i.i so each _ _ lt c.in-Some-first_step.ensures in
    wrong-at c.args.recording.now steps _ _ _ c.loop-i.i so (λ j is right.
    false≢true ((c.if-is_right_step.ensures steps j _ (omega (arith, is, lt)) (so.step_at j is)
    (before c.args.recording.now steps _ _ _ c.loop-i.i so j is _ lt got.0) refl).1 right))

pub returns-in_default-first_step-2 : goal.returns-in_default-first_step-2
returns-in_default-first_step-2 c = λ two steps size each text.
    let so = c.loop-i.invariant.1 two steps size each text in
    let lt : c.loop-i.i < length steps = omega (arith, size, c.loop-i-test.true) in
    absurd (no-next c.args.recording.now steps _ _ _ c.loop-i.i so each lt
    (rw c.in_default-first_step.is at c.first_step-in-loop-i.ensures))

pub loop-i-preserved : goal.loop-i-preserved
loop-i-preserved c = (
  said-next c.args.lines.now _ c.loop-i.i _ _ c.loop-i.invariant.0 c.in-Some-first_step.ensures,
  λ two steps size each text.
      let so = c.loop-i.invariant.1 two steps size each text in
      let lt : c.loop-i.i < length steps = omega (arith, size, c.loop-i-test.true) in
      let got =
      read-next c.args.recording.now steps _ _ _ c.loop-i.i so each _ _ lt c.in-Some-first_step.ensures in
      step-next c.args.recording.now steps _ _ _ c.loop-i.i so _ _ lt got.0 got.1 (λ j is.
      (c.if-is_right_step.ensures steps j _ (omega (arith, is, lt)) (so.step_at j is)
      (before c.args.recording.now steps _ _ _ c.loop-i.i so j is _ lt got.0) refl).0 refl),
)

pub returns-then-is_right_step-2 : goal.returns-then-is_right_step-2
returns-then-is_right_step-2 c = λ two.
    let none : c.loop-i.rest.now ≡ [] =
    empty-is c.loop-i.rest.now c.is_empty.result c.is_empty.ensures c.if-is_empty.true in
    let said = said-all c.args.lines.now _ c.loop-i.i c.loop-i.invariant.0 none in
    let steps = said.0 in
    let whole : c.loop-i.i ≡ c.args.k =
    omega (arith, two, c.loop-i-test.false, c.loop-i.auto.i, c.loop-i.auto.i-end) in
    let size : length steps ≡ c.args.k = said.1 ∙ whole in
    let so = c.loop-i.invariant.1 two steps size said.2 said.3 in (
      steps,
      size,
      said.2,
      said.3,
      all-at c.args.recording.now steps _ _ _ c.loop-i.i so said.1 (λ j is.
          let after = last c.args.recording.now steps _ _ _ c.loop-i.i so j is (omega (arith, said.1)) in
          (c.if-is_right_step-2.ensures steps j after.0 (omega (arith, is, said.1))
          (so.step_at j is) after.1 after.2).0 refl),
    )

pub returns-else-is_empty : goal.returns-else-is_empty
returns-else-is_empty c = λ two steps size each text.
    let so = c.loop-i.invariant.1 two steps size each text in
    let end : length steps ≡ c.loop-i.i = omega (arith, size, so.high, c.loop-i-test.false) in
    let whole : c.loop-i.i ≡ c.args.k = omega (arith, size, end) in
    elim c.else-is_empty.branch [
      | else-is_empty-via-then-is_empty+else-is_right_step-2 w ↦
          subst (IsFirstWrongStep (responses_of c.args.recording.now) steps) whole
          (wrong-at c.args.recording.now steps _ _ _ c.loop-i.i so (λ j is right.
          let after = last c.args.recording.now steps _ _ _ c.loop-i.i so j is (omega (arith, end)) in
          false≢true
          ((w.if-is_right_step-2.ensures steps j after.0 (omega (arith, is, end))
          (so.step_at j is) after.1 after.2).1 right)))
      | else-is_empty-via-else-is_empty w ↦
          absurd (some-left c.loop-i.rest.now c.is_empty.result c.is_empty.ensures w.if-is_empty.false
          (none-left c.args.recording.now steps _ _ _ c.loop-i.i so each end))
    ]
