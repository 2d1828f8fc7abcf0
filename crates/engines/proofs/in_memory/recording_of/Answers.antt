use Rattle.std.proofs.Common.{inr, refl}
use Rattle.engines.proofs.LineFaults.{trace_fault-names}
use Rattle.engines.proofs.in_memory.recording_of.Goals as goal

pub returns-in-Err-clause-trace : goal.returns-in-Err-clause-trace
returns-in-Err-clause-trace c =
    (trace_fault-names c.args.text.now c.in-Err.fault c.trace_fault.result _ refl c.in-Err.ensures.fault
    c.trace_fault.ensures.names).0

pub returns-in-Err-clause-memory : goal.returns-in-Err-clause-memory
returns-in-Err-clause-memory c = λ out. inr (
  c.in-Err.fault.line,
  c.in-Err.ensures.memory (c.trace_fault.ensures.memory out),
)
