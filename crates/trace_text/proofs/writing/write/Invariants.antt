use Rattle.std.proofs.Common.{◌≡◌, ◌∷◌, map, take}
use Rattle.specification.specs.Lines.{text_of}
use Rattle.specification.specs.TraceText.{header_line, replicas_line, entry_line, version_of}
use Rattle.trace_text.proofs.writing.write.Given as goal

abbrev pub invariant-loop-i : goal.invariant-loop-i
invariant-loop-i l =
    l.text.items
    ≡ text_of (header_line (version_of l.recording.entries) ∷ replicas_line l.recording.replicas
    ∷ map entry_line (take l.i l.recording.entries))
