-- The line of a step is read as that step, and no other line as one.
use Rattle.std.proofs.Common.{◌≡◌, ◌∙◌, Some, None, ◌∷◌, ◌++◌, sym, ap, subst}
use Rattle.specification.specs.Lines.{IsOneLine}
use Rattle.specification.specs.CertificateText.{step_line}
use Rattle.format_words.specs.Words.{words_of}
use Rattle.certificate_text.specs.Reading.{step_at}
use Rattle.certificate_text.proofs.StepLines.{step-again, step-spells}
use Rattle.certificate_text.proofs.FirstSteps.{no-line, step-cut}
use Rattle.certificate_text.proofs.ahead.first_step.Goals as goal

pub returns-in_default-split_line : goal.returns-in_default-split_line
returns-in_default-split_line c =
    λ s more good is. no-line (step_line s) more (subst IsOneLine is c.in_default-split_line.ensures)

pub returns-in-Ok : goal.returns-in-Ok
returns-in-Ok c =
    let p = step-spells c.in-Some-split_line.line.now _ c.in-Ok.ensures in
    (p.0, c.in-Some-split_line.ensures.1 ∙ ap (λ l. l ++ 10 ∷ c.in-Some-split_line.rest.now) p.1)

pub returns-in-Err : goal.returns-in-Err
returns-in-Err c = λ s more good is.
    let cut =
    step-cut s more c.in-Some-split_line.line.now c.in-Some-split_line.rest.now good
    c.in-Some-split_line.ensures.0 (sym c.in-Some-split_line.ensures.1 ∙ is) in
    let bad : None ≡ Some s = sym c.in-Err.ensures ∙ ap (λ l. step_at (words_of l)) cut ∙ step-again s good in
    absurd Prim.cc
