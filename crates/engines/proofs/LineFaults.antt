-- From the fault of a text to the fault of a run.
use Rattle.std.proofs.Common.{◌≡◌, ◌++◌, ℕ, List, Option, Some, None, IfSome, MatchOption, sym, subst}
use Rattle.std.specs.Io.KnownBytes.{Consumes}
use Rattle.events.specs.History.{History}
use Rattle.specification.specs.TraceText.{Cause, IsFirstLineFault, Spells}
use Rattle.trace_text.specs.Causes.{cause_of}
use Rattle.trace_text.specs.declared.cause.LineFault.{LineFault}
use Rattle.trace_text.proofs.OneReading.{no-fault}
use Rattle.engines.specs.Runs.{NamesFirstFault, IsOfText}
use Rattle.engines.specs.declared.status.RunFault.{RunFault}
use Rattle.engines.specs.declared.status.RunFault.TheVariants as run

-- out of memory has no line, and any other cause is the text's first fault
pub trace_fault-names : (text : List ℕ) (fault : LineFault) (answer : RunFault) (cause : Option Cause)
    → cause_of fault.cause ≡ cause
    → IfSome cause (λ c. IsFirstLineFault text fault.line c)
    → MatchOption cause (answer ≡ run.Memory) (λ _. answer ≡ run.Trace fault)
    → NamesFirstFault text answer × IsOfText answer
trace_fault-names text fault answer None same first is =
    subst (λ a. NamesFirstFault text a × IsOfText a) (sym is) (tt, tt)
trace_fault-names text fault answer (Some c) same first is =
    subst (λ a. NamesFirstFault text a × IsOfText a) (sym is) ((c, same, first), tt)

-- the fault of every text that begins with what was read is that of the reader's text
pub names-of-front : (before after : Option (List ℕ)) (text : List ℕ) (fault : RunFault)
    → Consumes before after text → ((more : List ℕ) → NamesFirstFault (text ++ more) fault)
    → IfSome before (λ t. NamesFirstFault t fault)
names-of-front None after text fault came names = tt
names-of-front (Some x) None text fault came names = absurd came
names-of-front (Some x) (Some y) text fault came names =
    subst (λ t. NamesFirstFault t fault) (sym came) (names y)

-- a text that has a fault spells nothing
pub none-spelled : (before : Option (List ℕ)) (fault : RunFault) (named : LineFault) → fault ≡ run.Trace named
    → IfSome before (λ t. NamesFirstFault t fault) → IfSome before (λ t. (h : History) → Spells t h → ⊥)
none-spelled None fault named is names = tt
none-spelled (Some text) fault named is names =
    let first = subst (NamesFirstFault text) is names in
    λ h spells. no-fault h text named.line first.0 spells first.2
