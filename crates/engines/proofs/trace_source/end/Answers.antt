use Rattle.std.proofs.Common.{refl}
use Rattle.engines.proofs.LineFaults.{trace_fault-names}
use Rattle.engines.proofs.trace_source.end.Goals as goal

pub returns-in-Err-clause-trace : goal.returns-in-Err-clause-trace
returns-in-Err-clause-trace c = λ text fed.
    (trace_fault-names text c.in-Err.fault c.trace_fault.result _ refl
    (c.in-Err.ensures.fault text fed) c.trace_fault.ensures.names).0
