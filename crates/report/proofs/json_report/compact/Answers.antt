-- The object is the report's data, and has no float: its text is exact.
use Rattle.std.proofs.Common.{◌≡◌, refl, ap, ◌∙◌}
use Rattle.serde_json.specs.View.{view}
use Rattle.serde_json.specs.Written.{compact_text, has_float}
use Rattle.events.specs.History.{History}
use Rattle.specification.specs.Verdict.{Verdict}
use Rattle.verdict.specs.VerdictOf.{verdict_of}
use Rattle.report.specs.JsonReport.{report_data}
use Rattle.report.proofs.Listed.{report-plain, counted}
use Rattle.report.proofs.json_report.compact.Goals as goal

pub returns : goal.returns
returns c =
    let h : History = c.args.recording.now in
    let v : Verdict = verdict_of c.args.verdict.now in
    let counts = c.counts_of-counts.ensures in
    let built : view c.in_ok-object.object ≡ report_data h v =
    c.in_ok-object.ensures ∙ counted h v _ _ _ refl counts.operations counts.inserts in
    c.in_ok-text.ensures.text (ap has_float built ∙ report-plain h v) ∙ ap compact_text built
