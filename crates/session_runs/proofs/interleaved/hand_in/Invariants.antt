use Rattle.std.proofs.Common.{◌≡◌, All}
use Rattle.sessions.specs.Shown.{PassShown}
use Rattle.session_runs.proofs.interleaved.hand_in.Given as goal

abbrev pub invariant-loop : goal.invariant-loop
invariant-loop g l = All (λ (p : PassShown). p.session ≡ l.session) l.passes
