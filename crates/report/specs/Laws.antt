-- Merges of the same streams have the same reports.
use Rattle.std.specs.Prelude.{◌≡◌}
use Rattle.events.specs.History.{History, SameStreams}
use Rattle.specification.specs.Verdict.{Verdict}
use Rattle.specification.specs.ReportText.{report_text}
use Rattle.report.specs.JsonReport.{report_json}

abbrev pub ReportsAreOfStreams : Type 0
ReportsAreOfStreams = (g h : History) (v : Verdict) → SameStreams g h
    → (report_text g v ≡ report_text h v) × (report_json g v ≡ report_json h v)
