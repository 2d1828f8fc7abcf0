-- Lines whose reading takes memory.
use Rattle.std.proofs.Common.{◌≡◌, refl, ap, Option, Some, None, Result, Err, inl, inr}
use Rattle.events.specs.History.{History}
use Rattle.events.specs.Session.{first_refusal}
use Rattle.events.specs.declared.entry.Entry.{Entry}
use Rattle.events.specs.declared.refusal.Refusal.{Refusal}
use Rattle.events.specs.declared.refusal.Refusal.TheVariants as refusal
use Rattle.events.specs.declared.recording.NewFault.{NewFault}
use Rattle.events.specs.declared.recording.NewFault.TheVariants as fault
use Rattle.specification.specs.Lines.{Line}
use Rattle.specification.specs.TraceText.{IsEntry, IsSpelledIn, entry_line, trace_lines}
use Rattle.specification.specs.Versions.{Version}
use Rattle.format_words.specs.Words.{words_of}
use Rattle.format_words.specs.Reading.{GivesOne}
use Rattle.trace_text.specs.Reading.{entry_at, HasEntryNames}
use Rattle.trace_text.specs.Versions.{has_views}
use Rattle.trace_text.specs.Place.{TakesMemory}
use Rattle.trace_text.specs.declared.cause.Cause.{Cause}
use Rattle.trace_text.specs.declared.cause.Cause.TheVariants as cause
use Rattle.trace_text.proofs.Spelled.{line-spells}

-- a line that is read as an entry with names
pub takes-by-names : (version : Version) (h : History) (line : Line) → IsSpelledIn version h
    → GivesOne HasEntryNames (entry_at (has_views version) (words_of line))
    → TakesMemory (trace_lines version h) line
takes-by-names version h line spelled some = go (entry_at (has_views version) (words_of line)) refl some
  where
    go : (o : Option Entry) → entry_at (has_views version) (words_of line) ≡ o → GivesOne HasEntryNames o
        → TakesMemory (trace_lines version h) line
    go None is k = absurd k
    go (Some e) is k = let read = line-spells version line e is in
        (version, h, spelled, refl, e, read.0, read.1, inl k)

-- a line whose entry is recorded
pub takes-by-record : (version : Version) (h : History) (line : Line) (e : Entry) → IsSpelledIn version h
    → IsEntry version e → line ≡ entry_line e → first_refusal h.replicas h.entries e ≡ None
    → TakesMemory (trace_lines version h) line
takes-by-record version h line e spelled k is none = (version, h, spelled, refl, e, k, is, inr none)

abbrev why_of : Cause → Refusal
why_of (cause.Refused why) = why
why_of cause.Header = refusal.Memory
why_of cause.Replicas = refusal.Memory
why_of cause.Shape = refusal.Memory
why_of cause.Cut = refusal.Memory

pub refused-for : (why : Refusal) → cause.Refused why ≡ cause.Refused refusal.Memory → why ≡ refusal.Memory
refused-for why is = ap why_of is

-- out of memory is no fault of a number
pub not-none : {A : Type 0} (r : Result A NewFault) → r ≡ Err fault.Memory → r ≡ Err fault.NoReplicas → ⊥
not-none r is other = cc

pub not-many : {A : Type 0} (r : Result A NewFault) → r ≡ Err fault.Memory → r ≡ Err fault.ManyReplicas → ⊥
not-many r is other = cc
