-- What comes back of recorders that were joined.
use Rattle.std.specs.Prelude.{◌≡◌, List, map}
use Rattle.events.specs.History.{History}
use Rattle.sessions.specs.Shown.{PassShown}
use Rattle.rehearsal.specs.Faults.{replay_fault}
use Rattle.rehearsal.specs.Foremost.{foremost_of_all}
use Rattle.rehearsal.specs.Replays.{HaveTold}
use Rattle.rehearsal.specs.declared.recorder.Told.{Told}
use Rattle.rehearsal.specs.declared.team.Back.{Back}

-- the passes are those that the recorders told, in order, and the fault is the foremost of their replays'
pub record HasJoined (h : History) (passes : List PassShown) (back : Back) : Type 0 where
  pub tolds : List Told
  pub told : HaveTold h passes tolds
  pub passes_are : back.passes.items ≡ map (λ t. t.pass) tolds
  pub fault_is : back.fault ≡ foremost_of_all (map (λ t. replay_fault t.answer) tolds)
