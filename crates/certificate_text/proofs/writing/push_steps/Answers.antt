use Rattle.std.proofs.Common.{sym, arith}
use Rattle.format_words.proofs.NameList.{not-past}
use Rattle.specification.specs.CertificateText.{step_line}
use Rattle.certificate_text.proofs.Written.{line-added}
use Rattle.certificate_text.proofs.writing.push_steps.Goals as goal
use Rattle.certificate_text.proofs.writing.push_steps.Goals.{in-Some+in_ok-push_step, in_default}

pub loop-i-preserved : goal.loop-i-preserved
loop-i-preserved c = elim c.match-get.branch [
  | in-Some+in_ok-push_step w ↦
      line-added step_line c.args.text.now.items c.loop-i.text.items _ c.args.steps.now c.loop-i.i
      w.in-Some.step.now (rw w.text-is w.in_ok-push_step.ensures) c.loop-i.invariant
      (sym w.in-Some.ensures)
  | in_default w ↦ absurd (not-past c.args.steps.now c.loop-i.i (omega arith) (sym w.in_default.ensures))
]
