-- One name more, and at the end all of them.
use Rattle.std.proofs.Common.{sym, arith, map}
use Rattle.serde_json.specs.Data.{string}
use Rattle.events.specs.Names.{NameBytes}
use Rattle.format_words.proofs.NameList.{not-past}
use Rattle.report.proofs.Listed.{values-more, all-listed}
use Rattle.report.proofs.words.response_value.Goals as goal
use Rattle.report.proofs.words.response_value.Goals.{in-Some+in_ok-name_value+in_ok-push, in_default}

pub loop-i-preserved : goal.loop-i-preserved
loop-i-preserved c = elim c.match-get.branch [
  | in-Some+in_ok-name_value+in_ok-push w ↦
      rw (w.names-is, w.in_ok-push.ensures.items)
      (values-more (λ (name : NameBytes). string name) c.loop-i.names.items c.args.response.now c.loop-i.i
      w.in_ok-name_value.field-0 w.in-Some.name c.loop-i.invariant w.in_ok-name_value.ensures
      (sym w.in-Some.ensures))
  | in_default w ↦ absurd (not-past c.args.response.now c.loop-i.i (omega arith) (sym w.in_default.ensures))
]

pub returns : goal.returns
returns c = all-listed c.loop-i.names c.args.response.now c.loop-i.i c.loop-i.invariant (omega arith)
