-- Replays of a recording by the passes of a session.
use Rattle.std.specs.Prelude.{◌≡◌, ℕ, List, [], ◌∷◌, ◌++◌, length, Some, IfOk, IfErr}
use Rattle.std.specs.List.{AllZip}
use Rattle.events.specs.History.{History, stream}
use Rattle.sessions.specs.Replays.{Stops}
use Rattle.sessions.specs.Shown.{ObserverShown, PassShown, mine}
use Rattle.rehearsal.specs.Faults.{replay_fault}
use Rattle.rehearsal.specs.Watched.{HasJudged}
use Rattle.rehearsal.specs.declared.fault.RehearsalFault.TheVariants as fault
use Rattle.rehearsal.specs.declared.recorder.Told.{Told}
use Rattle.rehearsal.specs.declared.rehearsing.Returns.{Returns}

-- the pass is as it was but for what it has seen, and to what it had recorded it added just the stream of its
-- replica
pub record IsReplayed (h : History) (old new : PassShown) : Type 0 where
  pub same : new ≡ record old { seen = new.seen }
  pub recorded : mine new ≡ mine old ++ stream h old.replica

-- the pass comes back; where the replay came to its end, it has replayed the stream of its replica, whose
-- length is told, and where it stopped, its first entries, and the next was refused
pub record HasReplayed (h : History) (old : PassShown) (told : Told) : Type 0 where
  pub same : told.pass ≡ record old { seen = told.pass.seen }
  pub counted : IfOk told.answer (λ count. count ≡ length (stream h old.replica))
  pub recorded : IfOk told.answer (λ count. mine told.pass ≡ mine old ++ stream h old.replica)
  pub stopped : IfErr told.answer (λ fault. Stops (stream h old.replica) old fault told.pass)

-- what these recorders told, one after the other
abbrev pub HaveTold : History → List PassShown → List Told → Type 0
HaveTold h passes tolds = AllZip (HasReplayed h) passes tolds

-- the replay of a recorder that began with nothing recorded, in a session that has the recording's replicas,
-- stopped at an entry that was refused, and not for want of memory. Of a legal recording this holds exactly
-- where it has a receipt
pub record HasStalled (h : History) : Type 0 where
  pub old : PassShown
  pub told : Told
  pub replicas : old.session.replicas ≡ h.replicas
  pub fresh : mine old ≡ []
  pub replayed : HasReplayed h old told
  pub is_stalled : replay_fault told.answer ≡ Some fault.Stalled

-- each pass has replayed, list against list
abbrev pub AreReplayed : History → List PassShown → List PassShown → Type 0
AreReplayed h [] [] = Unit {0}
AreReplayed h [] (q ∷ qs) = ⊥
AreReplayed h (p ∷ ps) [] = ⊥
AreReplayed h (p ∷ ps) (q ∷ qs) = IsReplayed h p q × AreReplayed h ps qs

-- what comes back after these passes acted beside this observer
abbrev pub HaveActed : History → ObserverShown → List PassShown → Returns → Type 0
HaveActed h observer passes back =
    AreReplayed h passes back.passes.items × HasJudged observer back.verdicts back.observer
