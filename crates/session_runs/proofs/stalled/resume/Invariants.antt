use Rattle.std.proofs.Common.{◌≡◌}
use Rattle.session_runs.proofs.stalled.resume.Given as goal

abbrev pub invariant-loop-at : goal.invariant-loop-at
invariant-loop-at g l = l.pass.session ≡ l.session
