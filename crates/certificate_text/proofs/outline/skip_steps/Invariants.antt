use Rattle.std.proofs.Common.{◌≡◌, List, ◌++◌, length, map}
use Rattle.std.specs.List.{All}
use Rattle.specification.specs.Conflict.{Step}
use Rattle.specification.specs.Lines.{text_of}
use Rattle.specification.specs.CertificateText.{IsStep, step_line}
use Rattle.certificate_text.proofs.outline.skip_steps.Given as goal

abbrev pub invariant-loop-i : goal.invariant-loop-i
invariant-loop-i l = (steps : List Step) × (length steps ≡ l.i) × All IsStep steps
    × (l.fn.text ≡ text_of (map step_line steps) ++ l.rest)
