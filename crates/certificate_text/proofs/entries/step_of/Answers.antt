-- Both names of a step are names.
use Rattle.std.proofs.Common.{◌≡◌, ◌∙◌, Some, None, ap}
use Rattle.events.specs.Names.{NameBytes}
use Rattle.specification.specs.CertificateText.{IsStep}
use Rattle.format_words.specs.Reading.{name_of}
use Rattle.format_words.proofs.NameWords.{name-is, name_of-name}
use Rattle.certificate_text.specs.StepSaid.{step_said}
use Rattle.certificate_text.proofs.StepLines.{step-spells}
use Rattle.certificate_text.proofs.entries.step_of.Goals as goal

pub returns-in_err-name_of-in-Ok : goal.returns-in_err-name_of-in-Ok
returns-in_err-name_of-in-Ok c =
    let step = c.in-Ok.step in
    let is : IsStep (step_said step) = (step-spells c.args.line.now (step_said step) c.in-Ok.ensures).0 in
    let some : name_of step.from.now ≡ Some step.from.now = name_of-name step.from.now is.0 in
    let none : name_of step.from.now ≡ None = c.in_err-name_of-in-Ok.ensures in
    absurd (Prim.cc)

pub returns-in_err-name_of-in-Ok-2 : goal.returns-in_err-name_of-in-Ok-2
returns-in_err-name_of-in-Ok-2 c =
    let step = c.in-Ok.step in
    let is : IsStep (step_said step) = (step-spells c.args.line.now (step_said step) c.in-Ok.ensures).0 in
    let some : name_of step.to.now ≡ Some step.to.now = name_of-name step.to.now is.1 in
    let none : name_of step.to.now ≡ None = c.in_err-name_of-in-Ok-2.ensures in
    absurd (Prim.cc)

pub returns-in_ok-name_of-in-Ok-2 : goal.returns-in_ok-name_of-in-Ok-2
returns-in_ok-name_of-in-Ok-2 c =
    let step = c.in-Ok.step in
    let from : step.from.now ≡ c.in_ok-name_of-in-Ok.field-0 =
    (name-is step.from.now c.in_ok-name_of-in-Ok.field-0 c.in_ok-name_of-in-Ok.ensures).0 in
    let to : step.to.now ≡ c.in_ok-name_of-in-Ok-2.field-0 =
    (name-is step.to.now c.in_ok-name_of-in-Ok-2.field-0 c.in_ok-name_of-in-Ok-2.ensures).0 in
    c.in-Ok.ensures
    ∙ ap (λ (w : NameBytes). Some (record { from = w; to = step.to.now; shown = step.shown })) from
    ∙ ap (λ (w : NameBytes). Some
    (record { from = c.in_ok-name_of-in-Ok.field-0; to = w; shown = step.shown })) to
