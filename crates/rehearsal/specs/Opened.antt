-- The passes of a session at its start, and before its end.
use Rattle.std.specs.Prelude.{◌≡◌, ℕ, ◌<◌, List, [], length, All}
use Rattle.events.specs.History.{History, stream}
use Rattle.sessions.specs.Rule.{total}
use Rattle.sessions.specs.Shown.{Which, PassShown, hands, mine}

-- one pass for each replica of the session, each with nothing recorded; one observer was made, and none has
-- ended
pub record AreOpened (session : Which) (ps : List PassShown) : Type 0 where
  pub count : length ps ≡ session.replicas
  pub some : 0 < length ps
  pub of_session : All (λ (p : PassShown). p.session ≡ session) ps
  pub each : (r : ℕ) → r < session.replicas → hands r ps ≡ 1
  pub made : total (λ (p : PassShown). p.made) ps ≡ 1
  pub ended : total (λ (p : PassShown). p.ended) ps ≡ 0
  pub fresh : All (λ (p : PassShown). mine p ≡ []) ps
