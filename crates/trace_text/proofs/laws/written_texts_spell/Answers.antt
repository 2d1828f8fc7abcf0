use Rattle.trace_text.proofs.Written.{written-spells}
use Rattle.trace_text.proofs.laws.written_texts_spell.Goals as goal

pub returns : goal.returns
returns c = written-spells
