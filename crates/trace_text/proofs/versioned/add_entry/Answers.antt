use Rattle.std.proofs.Common.{ap, ◌∙◌, subst, sym}
use Rattle.specification.specs.TraceText.{trace_lines, IsSpelledIn}
use Rattle.format_words.specs.Reading.{Fails}
use Rattle.trace_text.specs.Reading.{entry_at, HasEntryNames}
use Rattle.trace_text.specs.Versions.{has_views, version_in}
use Rattle.format_words.specs.Words.{words_of}
use Rattle.format_words.specs.declared.stop.Stop.{Stop}
use Rattle.trace_text.proofs.Spelled.{line-spells}
use Rattle.trace_text.proofs.FaultyLines.{one-line-more, refused-line, none-refused, shape-of, spelled-more}
use Rattle.trace_text.proofs.TakingLines.{takes-by-names, takes-by-record, refused-for}
use Rattle.trace_text.proofs.versioned.add_entry.Goals as goal

pub returns-in-Err-Shape-clause-fault : goal.returns-in-Err-Shape-clause-fault
returns-in-Err-Shape-clause-fault c =
    shape-of (version_in c.args.version) c.args.line.now
    (subst (λ (e : Stop). Fails HasEntryNames e (entry_at (has_views (version_in c.args.version))
    (words_of c.args.line.now))) c.in-Err-Shape.field-0-is c.in-Err-Shape.ensures)

pub returns-in-Ok-record-clause-ok : goal.returns-in-Ok-record-clause-ok
returns-in-Ok-record-clause-ok c =
    let read = line-spells (version_in c.args.version) c.args.line.now c.in-Ok.entry c.in-Ok.ensures in
    ap (trace_lines (version_in c.args.version)) c.in-Ok-record.ensures.ok.1
    ∙ one-line-more (version_in c.args.version) c.args.recording.now c.in-Ok.entry c.args.line.now read.1

pub returns-in-Err-clause-fault : goal.returns-in-Err-clause-fault
returns-in-Err-clause-fault c =
    let read = line-spells (version_in c.args.version) c.args.line.now c.in-Ok.entry c.in-Ok.ensures in
    refused-line (version_in c.args.version) c.args.recording.now c.args.line.now c.in-Ok.entry
    c.in-Err.refused.why c.requires read.0 read.1 c.in-Err.ensures.refused

pub returns-in-Err-Memory-clause-memory : goal.returns-in-Err-Memory-clause-memory
returns-in-Err-Memory-clause-memory c =
    λ _. takes-by-names (version_in c.args.version) c.args.recording.now c.args.line.now c.requires
    (subst (λ (e : Stop). Fails HasEntryNames e (entry_at (has_views (version_in c.args.version))
    (words_of c.args.line.now))) c.in-Err-Memory.field-0-is c.in-Err-Memory.ensures)

pub returns-in-Err-clause-memory : goal.returns-in-Err-clause-memory
returns-in-Err-clause-memory c =
    let read = line-spells (version_in c.args.version) c.args.line.now c.in-Ok.entry c.in-Ok.ensures in
    λ is. takes-by-record (version_in c.args.version) c.args.recording.now c.args.line.now c.in-Ok.entry
    c.requires read.0 read.1 (c.in-Err.ensures.memory (refused-for c.in-Err.refused.why is))

pub returns-in-Ok-record-clause-spelled : goal.returns-in-Ok-record-clause-spelled
returns-in-Ok-record-clause-spelled c =
    let read = line-spells (version_in c.args.version) c.args.line.now c.in-Ok.entry c.in-Ok.ensures in
    let taken = c.in-Ok-record.ensures.ok in
    subst (IsSpelledIn (version_in c.args.version)) (sym taken.1)
    (spelled-more (version_in c.args.version) c.args.recording.now c.in-Ok.entry c.requires read.0
    (none-refused _ _ _ taken.0))
