use Rattle.std.proofs.Common.{◌-◌, List, ℕ}
use Rattle.byte_streams.specs.declared.source.TheConstants.{READS}
use Rattle.byte_streams.proofs.Calls.{ReadSoFar}
use Rattle.engines.proofs.Failures.{IsStill}
use Rattle.engines.proofs.trace_source.read_on.Given as goal

abbrev pub invariant-loop-n : goal.invariant-loop-n
invariant-loop-n g l =
    (text : List ℕ) × ReadSoFar l.fn.source l.source text × IsStill l.fn.source l.source

abbrev pub decreases-loop-n : goal.decreases-loop-n
decreases-loop-n g l = READS - l.source.reads
