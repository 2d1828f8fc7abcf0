use Rattle.std.proofs.Common.{◌≡◌, ◌≤◌, List, length}
use Rattle.std.specs.Prelude.{All, map}
use Rattle.specification.specs.Conflict.{Step}
use Rattle.specification.specs.Lines.{text_of}
use Rattle.specification.specs.CertificateText.{IsStep, step_line}
use Rattle.certificate_text.specs.StepSaid.{step_said}
use Rattle.cert_check.proofs.StepTexts.{SaidSoFar, StepsSoFar}
use Rattle.cert_check.proofs.steps.first_wrong_among.Given as goal

abbrev pub invariant-loop-i : goal.invariant-loop-i
invariant-loop-i l =
    SaidSoFar l.lines l.rest l.i
    × (2 ≤ l.k → (steps : List Step) → length steps ≡ l.k → All IsStep steps
    → l.lines ≡ text_of (map step_line steps)
    → StepsSoFar l.recording steps l.begin (step_said l.step) l.rest l.i)
