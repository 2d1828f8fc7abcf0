use Rattle.std.proofs.Common.{◌≡◌}
use Rattle.sessions.proofs.tests.replayed.resumed.Given as goal

abbrev pub invariant-loop-at : goal.invariant-loop-at
invariant-loop-at g l = l.pass.session ≡ l.session
