use Rattle.std.proofs.Common.{sym, arith}
use Rattle.format_words.proofs.NameList.{not-past}
use Rattle.report.proofs.Longer.{step-more}
use Rattle.report.proofs.lines.push_steps.Goals as goal
use Rattle.report.proofs.lines.push_steps.Goals.{in-Some+in_ok-push_step, in_default}

pub loop-i-preserved : goal.loop-i-preserved
loop-i-preserved c = elim c.match-get.branch [
  | in-Some+in_ok-push_step w ↦
      rw (w.text-is, w.in_ok-push_step.ensures)
      (step-more c.args.recording.now c.args.text.now.items c.loop-i.text.items c.args.steps.now c.loop-i.i
      w.in-Some.step.now c.loop-i.invariant (sym w.in-Some.ensures))
  | in_default w ↦ absurd (not-past c.args.steps.now c.loop-i.i (omega arith) (sym w.in_default.ensures))
]
