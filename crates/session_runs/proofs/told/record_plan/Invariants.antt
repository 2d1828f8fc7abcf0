use Rattle.std.proofs.Common.{◌≡◌}
use Rattle.session_runs.proofs.told.record_plan.Given as goal

abbrev pub invariant-loop-n : goal.invariant-loop-n
invariant-loop-n g l = l.pass.session ≡ l.session
