-- What is answered of the lines of a cycle's steps.
use Rattle.std.specs.Prelude.{◌≡◌, ◌≤◌, ◌<◌, ℕ, All, List, Option, MatchOption, length, map}
use Rattle.events.specs.History.{History}
use Rattle.specification.specs.Conflict.{Step}
use Rattle.specification.specs.CertificateText.{IsStep, step_line}
use Rattle.specification.specs.Lines.{text_of}
use Rattle.specification.specs.Responses.{responses_of}
use Rattle.specification.specs.ValidCertificate.{StepIsRight, IsFirstWrongStep}

-- k is 2 or more: none is answered only where the lines are those of k steps that are all right; a number,
-- where the lines are those of k steps, only where it is that of the first that is not right
abbrev pub TellsFirstWrong : History → ℕ → List ℕ → Option ℕ → Type 0
TellsFirstWrong h k lines answer = 2 ≤ k → MatchOption answer
    ((steps : List Step) × (length steps ≡ k) × All IsStep steps × (lines ≡ text_of (map step_line steps))
    × ((i : ℕ) → i < length steps → StepIsRight (responses_of h) steps i))
    (λ n. (steps : List Step) → length steps ≡ k → All IsStep steps → lines ≡ text_of (map step_line steps)
    → IsFirstWrongStep (responses_of h) steps n)
