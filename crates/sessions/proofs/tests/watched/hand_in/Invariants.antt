use Rattle.std.proofs.Common.{◌≡◌, All}
use Rattle.sessions.specs.Shown.{PassShown}
use Rattle.sessions.proofs.tests.watched.hand_in.Given as goal

abbrev pub invariant-loop-i : goal.invariant-loop-i
invariant-loop-i g l = All (λ (p : PassShown). p.session ≡ l.session) l.passes
