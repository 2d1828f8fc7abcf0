use Rattle.trace_text.proofs.OneReading.{no-fault}
use Rattle.trace_text.proofs.laws.spelled_texts_have_no_fault.Goals as goal

pub returns : goal.returns
returns c = λ text h line cause. no-fault h text line cause
