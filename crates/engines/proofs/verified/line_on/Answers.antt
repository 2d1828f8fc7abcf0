-- The line and the status are those of the checker's answer.
use Rattle.engines.proofs.verified.line_on.Goals as goal

pub returns : goal.returns
returns g c =
    λ trace read. (
      c.in_ok-answer.answer,
      c.in_ok-answer.ensures.answer trace read,
      c.in_ok-bytes.ensures,
      c.status_of_answer.ensures,
    )
