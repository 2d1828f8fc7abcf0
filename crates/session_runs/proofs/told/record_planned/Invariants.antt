use Rattle.std.proofs.Common.{◌≡◌}
use Rattle.session_runs.proofs.told.record_planned.Given as goal

abbrev pub invariant-loop : goal.invariant-loop
invariant-loop g l = l.pass.session ≡ l.session
