use Rattle.trace_text.proofs.KeptLines.{says-name}
use Rattle.trace_text.proofs.kept.is_name.Goals as goal

pub returns : goal.returns
returns c = rw c.is_ok.ensures.value (says-name c.name_of.result c.args.word.now c.name_of.ensures)
