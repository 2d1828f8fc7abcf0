-- What a replay that stopped, a watch that failed, and recorders that could not be started end a rehearsal
-- with.
use Rattle.std.specs.Prelude.{ℕ, Bool, true, false, Option, Some, None, Result, Ok, Err}
use Rattle.events.specs.declared.refusal.Refusal.TheVariants.{NoReplica, OwnReceipt, NotYet, EntriesFull}
use Rattle.events.specs.declared.refusal.Refusal.TheVariants.{InsertsFull, LongResponse, PlacesFull, Memory}
use Rattle.sessions.specs.declared.replaying.ReplayFault.{ReplayFault}
use Rattle.sessions.specs.declared.replaying.ReplayFault.TheVariants.{Stalled, Refused}
use Rattle.level_search.specs.declared.search_fault.SearchFault.{SearchFault}
use Rattle.rehearsal.specs.Foremost.{foremost_of}
use Rattle.rehearsal.specs.declared.fault.RehearsalFault.{RehearsalFault}
use Rattle.rehearsal.specs.declared.fault.RehearsalFault.TheVariants as fault

-- memory stays memory; another refusal is that an operation had not come
abbrev pub replay_fault : Result ℕ ReplayFault → Option RehearsalFault
replay_fault (Ok n) = None
replay_fault (Err (Stalled at)) = Some fault.Stalled
replay_fault (Err (Refused at NoReplica)) = Some fault.Stalled
replay_fault (Err (Refused at OwnReceipt)) = Some fault.Stalled
replay_fault (Err (Refused at (NotYet have))) = Some fault.Stalled
replay_fault (Err (Refused at EntriesFull)) = Some fault.Stalled
replay_fault (Err (Refused at InsertsFull)) = Some fault.Stalled
replay_fault (Err (Refused at LongResponse)) = Some fault.Stalled
replay_fault (Err (Refused at PlacesFull)) = Some fault.Stalled
replay_fault (Err (Refused at Memory)) = Some fault.Memory

-- the workers were counted before, so a watch fails by memory alone
abbrev pub watch_fault : {A : Type 0} → Result A SearchFault → Option RehearsalFault
watch_fault (Ok done) = None
watch_fault (Err e) = Some fault.Memory

abbrev pub start_fault : Bool → Option RehearsalFault
start_fault true = None
start_fault false = Some fault.Thread

-- the foremost of the recorders', the watch's, and that not all recorders could be started
abbrev pub fault_of_all : {A : Type 0} → Option RehearsalFault → Result A SearchFault → Bool
    → Option RehearsalFault
fault_of_all recorders watch is_whole =
    foremost_of (foremost_of recorders (watch_fault watch)) (start_fault is_whole)
