use Rattle.std.proofs.Common.{sym, arith}
use Rattle.format_words.proofs.NameList.{not-past}
use Rattle.specification.specs.TraceText.{version_of}
use Rattle.trace_text.proofs.Written.{entry-more}
use Rattle.trace_text.proofs.writing.write.Goals as goal
use Rattle.trace_text.proofs.writing.write.Goals.{in-Some+in_ok-push_entry, in_default}

pub loop-i-preserved : goal.loop-i-preserved
loop-i-preserved c = elim c.match-entry.branch [
  | in-Some+in_ok-push_entry w ↦
      rw (w.text-is, w.in_ok-push_entry.ensures)
      (entry-more c.loop-i.text.items (version_of c.args.recording.now.entries) c.args.recording.now
      c.loop-i.i w.in-Some.entry.now c.loop-i.invariant (sym w.in-Some.ensures))
  | in_default w ↦
      absurd (not-past c.args.recording.now.entries c.loop-i.i (omega arith) (sym w.in_default.ensures))
]
