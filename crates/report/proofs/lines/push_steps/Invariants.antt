use Rattle.std.proofs.Common.{◌≡◌, ◌++◌, map, take}
use Rattle.specification.specs.Lines.{text_of}
use Rattle.specification.specs.ReportText.{report_step}
use Rattle.report.proofs.lines.push_steps.Given as goal

abbrev pub invariant-loop-i : goal.invariant-loop-i
invariant-loop-i l =
    l.text.items ≡ l.fn.text.items ++ text_of (map (report_step l.recording) (take l.i l.steps))
