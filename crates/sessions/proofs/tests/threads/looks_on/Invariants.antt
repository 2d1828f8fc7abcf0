use Rattle.std.proofs.Common.{◌≡◌}
use Rattle.sessions.proofs.tests.threads.looks_on.Given as goal

abbrev pub invariant-loop : goal.invariant-loop
invariant-loop g l = l.observer.session ≡ l.session
