-- One step more, and at the end all of them.
use Rattle.std.proofs.Common.{sym, ap, ◌∙◌, arith, map}
use Rattle.std.proofs.lemmas.List.{take_all}
use Rattle.serde_json.specs.Data.{array}
use Rattle.serde_json.specs.View.{items_of}
use Rattle.serde_json.proofs.Views.{view-Array}
use Rattle.format_words.proofs.NameList.{not-past}
use Rattle.report.specs.JsonReport.{step_json}
use Rattle.report.proofs.Listed.{values-more, steps-listed}
use Rattle.report.proofs.object.steps_value.Goals as goal
use Rattle.report.proofs.object.steps_value.Goals.{in-Some+in_ok-step_value+in_ok-push, in_default}

pub loop-i-preserved : goal.loop-i-preserved
loop-i-preserved c = elim c.match-get.branch [
  | in-Some+in_ok-step_value+in_ok-push w ↦
      rw (w.values-is, w.in_ok-push.ensures.items)
      (values-more (step_json c.args.recording.now) c.loop-i.values.items c.args.steps.now c.loop-i.i
      w.in_ok-step_value.field-0 w.in-Some.step.now c.loop-i.invariant w.in_ok-step_value.ensures
      (sym w.in-Some.ensures))
  | in_default w ↦ absurd (not-past c.args.steps.now c.loop-i.i (omega arith) (sym w.in_default.ensures))
]

pub returns : goal.returns
returns c =
    let whole = take_all c.loop-i.i c.args.steps.now (omega arith) in
    view-Array c.loop-i.values
    ∙ ap array (ap items_of (c.loop-i.invariant ∙ ap (map (step_json c.args.recording.now)) whole)
    ∙ steps-listed c.args.recording.now c.args.steps.now)
