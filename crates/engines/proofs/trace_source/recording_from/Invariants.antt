use Rattle.std.proofs.Common.{◌≡◌, ◌-◌, ℕ, List, None}
use Rattle.std.specs.Io.KnownBytes.{Consumes}
use Rattle.byte_streams.specs.declared.source.TheConstants.{READS}
use Rattle.byte_streams.proofs.Calls.{ReadSoFar}
use Rattle.trace_text.specs.Fed.{WasFed}
use Rattle.engines.proofs.Failures.{IsStill}
use Rattle.engines.proofs.trace_source.recording_from.Given as goal

abbrev pub invariant-loop-n : goal.invariant-loop-n
invariant-loop-n g l =
    (text : List ℕ) × Consumes l.fn.source.bytes l.source.bytes text × WasFed l.reader text
    × (l.reader.fault ≡ None) × ReadSoFar l.fn.source l.source text × IsStill l.fn.source l.source

abbrev pub decreases-loop-n : goal.decreases-loop-n
decreases-loop-n g l = READS - l.source.reads
