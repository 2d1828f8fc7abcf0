use Rattle.std.proofs.Common.{◌≡◌, take}
use Rattle.specification.specs.TraceText.{version_of}
use Rattle.specification.specs.Versions.{one}
use Rattle.trace_text.proofs.writing.version_to_write.Given as goal

abbrev pub invariant-loop-i : goal.invariant-loop-i
invariant-loop-i l = version_of (take l.i l.recording.entries) ≡ one
