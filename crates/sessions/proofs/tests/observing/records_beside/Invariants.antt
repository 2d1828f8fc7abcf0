use Rattle.std.proofs.Common.{◌≡◌}
use Rattle.sessions.proofs.tests.observing.records_beside.Given as goal

abbrev pub invariant-loop : goal.invariant-loop
invariant-loop g l = (l.pass.session ≡ l.session) × (l.pass.made ≡ l.counter)
