-- The step whose names stand as parts of a line.
use Rattle.specification.specs.Conflict.{Step}
use Rattle.certificate_text.specs.declared.entries.StepWords.{StepWords}

abbrev pub step_said : StepWords → Step
step_said words = record { from = words.from.now; to = words.to.now; shown = words.shown }
