use Rattle.trace_text.proofs.OneReading.{one-recording}
use Rattle.trace_text.proofs.laws.texts_spell_one_recording.Goals as goal

pub returns : goal.returns
returns c = one-recording
