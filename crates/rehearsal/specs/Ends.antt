-- Which fault a rehearsal ends with.
use Rattle.std.specs.Prelude.{◌≡◌, nat_eq, Some, Result, List, map, length}
use Rattle.events.specs.History.{History}
use Rattle.verdict.specs.declared.verdict.Verdict.{Verdict}
use Rattle.level_search.specs.declared.search_fault.SearchFault.{SearchFault}
use Rattle.sessions.specs.Prefixes.{HasPrefix}
use Rattle.sessions.specs.Shown.{Which, PassShown}
use Rattle.rehearsal.specs.Faults.{replay_fault, fault_of_all}
use Rattle.rehearsal.specs.Foremost.{foremost_of_all}
use Rattle.rehearsal.specs.Opened.{AreOpened}
use Rattle.rehearsal.specs.Replays.{HaveTold}
use Rattle.rehearsal.specs.declared.fault.RehearsalFault.{RehearsalFault}
use Rattle.rehearsal.specs.declared.fault.RehearsalFault.TheVariants as fault
use Rattle.rehearsal.specs.declared.recorder.Told.{Told}

-- recorders with the first of these passes were started, and told how they went; and this is the foremost of
-- all faults
pub record EndsWith (h : History) (before : List PassShown) (fault : RehearsalFault) : Type 0 where
  pub passes : List PassShown
  pub tolds : List Told
  pub watch : Result (List Verdict) SearchFault
  pub started : HasPrefix before passes
  pub told : HaveTold h passes tolds
  pub foremost :
      fault_of_all (foremost_of_all (map (λ t. replay_fault t.answer) tolds)) watch
      (nat_eq (length passes) (length before)) ≡ Some fault

-- the same, of the passes of a session that has the recording's replicas. No value tells which threads ran,
-- and the passes may have seen any entries of other replicas: so, of a legal recording, that one stalled
-- holds exactly where it has a receipt
pub record HasEnded (h : History) (fault : RehearsalFault) : Type 0 where
  pub session : Which
  pub replicas : session.replicas ≡ h.replicas
  pub before : List PassShown
  pub opened : AreOpened session before
  pub ends : EndsWith h before fault

-- what a rehearsal of this recording may end with. No clause can say that memory ran out or that a thread was
-- not started: no value shows either
abbrev pub IsEndOf : History → RehearsalFault → Type 0
IsEndOf h fault.Workers = Unit {0}
IsEndOf h fault.Thread = Unit {0}
IsEndOf h fault.Stalled = HasEnded h fault.Stalled
IsEndOf h fault.Memory = Unit {0}

-- the same within the rehearsal, where the workers were counted
abbrev pub MayEnd : History → List PassShown → RehearsalFault → Type 0
MayEnd h before fault.Workers = ⊥
MayEnd h before fault.Thread = EndsWith h before fault.Thread
MayEnd h before fault.Stalled = EndsWith h before fault.Stalled
MayEnd h before fault.Memory = Unit {0}
