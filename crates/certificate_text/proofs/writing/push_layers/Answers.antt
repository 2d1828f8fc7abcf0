use Rattle.std.proofs.Common.{sym, arith}
use Rattle.format_words.proofs.NameList.{not-past}
use Rattle.certificate_text.proofs.Written.{layer-more}
use Rattle.certificate_text.proofs.writing.push_layers.Goals as goal
use Rattle.certificate_text.proofs.writing.push_layers.Goals.{in-Some+in_ok-push_layer_at, in_default}

pub loop-i-preserved : goal.loop-i-preserved
loop-i-preserved c = elim c.match-get.branch [
  | in-Some+in_ok-push_layer_at w ↦
      rw (w.text-is, w.in_ok-push_layer_at.ensures)
      (layer-more c.args.text.now.items c.loop-i.text.items c.args.row.now c.loop-i.i w.in-Some.layer.now
      c.loop-i.invariant (sym w.in-Some.ensures))
  | in_default w ↦ absurd (not-past c.args.row.now c.loop-i.i (omega arith) (sym w.in_default.ensures))
]
