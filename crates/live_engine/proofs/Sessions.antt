-- How a session that replays a recording ends, on the text that was read.
use Rattle.std.proofs.Common.{◌≡◌, ◌≢◌, ℕ, List, Option, Some, None, Result, Ok, Err, IfSome, IfOk, IfErr}
use Rattle.std.proofs.Common.{ap, refl, subst, sym}
use Rattle.std.specs.Prelude.{IsErrOf}
use Rattle.events.specs.History.{History}
use Rattle.verdict.specs.declared.verdict.Verdict.{Verdict}
use Rattle.specification.specs.TraceText.{Spells}
use Rattle.rehearsal.specs.Ends.{HasEnded, IsEndOf}
use Rattle.rehearsal.specs.Replays.{HasStalled}
use Rattle.rehearsal.specs.declared.fault.RehearsalFault.{RehearsalFault}
use Rattle.rehearsal.specs.declared.fault.RehearsalFault.TheVariants as rehearsal
use Rattle.engines.specs.Runs.{NamesFirstFault}
use Rattle.engines.specs.declared.status.RunFault.{RunFault}
use Rattle.engines.specs.declared.status.RunFault.TheVariants.{Memory, Read, Stalled, Thread, Trace}
use Rattle.engines.specs.declared.status.RunFault.TheVariants.{Workers, Write}
use Rattle.live_engine.specs.Endings.{fault_of_rehearsal}
use Rattle.live_engine.specs.Sessions.{HasStalledOn, IsOfSession, IsWatched, IsWatchedOn}

-- no fault of threads or of memory is one of a text
pub names-none : (before : Option (List ℕ)) (fault : RunFault) → IsOfSession fault
    → IfSome before (λ t. NamesFirstFault t fault)
names-none None fault h = tt
names-none (Some t) Thread h = tt
names-none (Some t) Stalled h = tt
names-none (Some t) Memory h = tt
names-none (Some t) (Trace fault) h = absurd h
names-none (Some t) Workers h = absurd h
names-none (Some t) Read h = absurd h
names-none (Some t) Write h = absurd h

-- what is made of a rehearsal is so where there is one
pub made-of : {A B : Type 0} (Q : B → Type 0) (rehearsed : Result A RehearsalFault)
    (answer : Result B RunFault)
    → IfOk rehearsed (λ _. IfOk answer Q) → IfErr rehearsed (λ why. answer ≡ Err (fault_of_rehearsal why))
    → IfOk answer Q
made-of Q (Ok closed) answer made fault = made
made-of Q (Err why) answer made fault = subst (λ a. IfOk a Q) (sym fault) tt

-- how it ends where there is none, or where memory runs out behind it
module _ (h : History) where
  abbrev Ends : RunFault → Type 0
  Ends fault = IsOfSession fault × (fault ≡ Stalled → HasStalled h × HasEnded h rehearsal.Stalled)

  ends-by : (why : RehearsalFault) → why ≢ rehearsal.Workers → IsEndOf h why
      → (why ≡ rehearsal.Stalled → HasStalled h) → Ends (fault_of_rehearsal why)
  ends-by rehearsal.Workers other ended stalled = absurd (other refl)
  ends-by rehearsal.Thread other ended stalled = (tt, λ e. absurd cc)
  ends-by rehearsal.Stalled other ended stalled = (tt, λ _. (stalled refl, ended))
  ends-by rehearsal.Memory other ended stalled = (tt, λ e. absurd cc)

  pub ended-by : {A B : Type 0} (rehearsed : Result A RehearsalFault) (answer : Result B RunFault)
      → ¬ IsErrOf rehearsed rehearsal.Workers → IfErr rehearsed (IsEndOf h)
      → (IsErrOf rehearsed rehearsal.Stalled → HasStalled h)
      → IfOk rehearsed (λ _. IfErr answer (λ fault. fault ≡ Memory))
      → IfErr rehearsed (λ why. answer ≡ Err (fault_of_rehearsal why))
      → IfErr answer Ends
  ended-by (Ok closed) (Ok output) other ended stalled memory fault = tt
  ended-by (Ok closed) (Err fault) other ended stalled memory is =
      subst Ends (sym memory) (tt, λ e. absurd cc)
  ended-by (Err why) answer other ended stalled memory fault =
      subst (λ a. IfErr a Ends) (sym fault)
      (ends-by why (λ e. other (ap Err e)) ended (λ e. stalled (ap Err e)))

-- the recording that a text spells has stalled
pub stalled-on : (before : Option (List ℕ)) (h : History) → IfSome before (λ t. Spells t h)
    → HasStalled h × HasEnded h rehearsal.Stalled → IfSome before HasStalledOn
stalled-on None h spells stalled = tt
stalled-on (Some t) h spells stalled = (h, spells, stalled.0, stalled.1)

-- the verdicts of a watcher of the recording that a text spells
pub watched-on : (before : Option (List ℕ)) (h : History) (verdicts : List Verdict)
    → IfSome before (λ t. Spells t h) → IsWatched h verdicts
    → IfSome before (λ t. IsWatchedOn t verdicts)
watched-on None h verdicts spells watched = tt
watched-on (Some t) h verdicts spells watched = (h, spells, watched)
