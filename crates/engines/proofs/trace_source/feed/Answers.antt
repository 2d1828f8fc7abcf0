use Rattle.std.proofs.Common.{◌++◌, refl}
use Rattle.engines.proofs.LineFaults.{trace_fault-names}
use Rattle.engines.proofs.trace_source.feed.Goals as goal

pub returns-in-Err-clause-trace : goal.returns-in-Err-clause-trace
returns-in-Err-clause-trace c = λ text more fed.
    (trace_fault-names ((text ++ c.args.piece.now) ++ more) c.in-Err.fault c.trace_fault.result _ refl
    (c.in-Err.ensures.fault text more fed) c.trace_fault.ensures.names).0
