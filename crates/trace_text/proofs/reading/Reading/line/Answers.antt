use Rattle.trace_text.proofs.FaultyLines.{so-far-begins}
use Rattle.trace_text.proofs.reading.Reading.line.Goals as goal

pub returns-in-Ok-clause-right : goal.returns-in-Ok-clause-right
returns-in-Ok-clause-right c = so-far-begins c.take.new.self c.in-Ok.ensures.legal
