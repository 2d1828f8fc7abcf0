-- A text that has a fault spells nothing.
use Rattle.engines.proofs.Failures.{fails-behind}
use Rattle.engines.proofs.LineFaults.{none-spelled}
use Rattle.engines.proofs.trace_source.recording_to_end.Goals as goal

pub returns-in-Ok-read_on-clause-ok : goal.returns-in-Ok-read_on-clause-ok
returns-in-Ok-read_on-clause-ok g c =
    none-spelled c.args.source.now.bytes c.in-Err-Trace.field-0 c.in-Err-Trace.field-0-0
    c.in-Err-Trace.field-0-is c.in-Err-Trace.ensures.trace

pub returns-in-Err-read_on-clause-failed_read : goal.returns-in-Err-read_on-clause-failed_read
returns-in-Err-read_on-clause-failed_read g c = λ _.
    fails-behind c.args.source.now c.recording_from.new.source c.read_on.new.source
    (c.in-Err-Trace.ensures.read_on (λ e. absurd cc)) c.in-Err-read_on.ensures.failed_read
