use Rattle.std.proofs.Common.{sym, arith}
use Rattle.format_words.proofs.NameList.{not-past}
use Rattle.specification.specs.CertificateText.{row_line}
use Rattle.certificate_text.proofs.Written.{line-added}
use Rattle.certificate_text.proofs.writing.push_rows.Goals as goal
use Rattle.certificate_text.proofs.writing.push_rows.Goals.{in-Some+in_ok-push_row, in_default}

pub loop-i-preserved : goal.loop-i-preserved
loop-i-preserved c = elim c.match-get.branch [
  | in-Some+in_ok-push_row w ↦
      line-added row_line c.args.text.now.items c.loop-i.text.items _ c.args.layers.now c.loop-i.i
      w.in-Some.row.now (rw w.text-is w.in_ok-push_row.ensures) c.loop-i.invariant (sym w.in-Some.ensures)
  | in_default w ↦ absurd (not-past c.args.layers.now c.loop-i.i (omega arith) (sym w.in_default.ensures))
]
