use Rattle.report.proofs.laws.reports_are_of_streams.Goals as goal
use Rattle.report.proofs.OfStreams as law

pub returns : goal.returns
returns c = law.reports_are_of_streams
