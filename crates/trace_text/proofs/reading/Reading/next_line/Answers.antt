use Rattle.std.proofs.Common.{subst, sym}
use Rattle.specification.specs.TraceText.{BeginsSpelling}
use Rattle.trace_text.specs.Progress.{good}
use Rattle.trace_text.specs.Versions.{version_in}
use Rattle.trace_text.specs.declared.reading.Reading.{Reading}
use Rattle.trace_text.proofs.FaultyLines.{nothing-begins, header-begins, lines-begin}
use Rattle.trace_text.proofs.reading.Reading.next_line.Goals as goal

pub returns-in-Start-clause-begins : goal.returns-in-Start-clause-begins
returns-in-Start-clause-begins c =
    subst (λ (r : Reading). BeginsSpelling (good r)) (sym c.in-Start.is) nothing-begins

pub returns-in-Headed-clause-begins : goal.returns-in-Headed-clause-begins
returns-in-Headed-clause-begins c =
    subst (λ (r : Reading). BeginsSpelling (good r)) (sym c.in-Headed.is)
    (header-begins (version_in c.in-Headed.field-0))

pub returns-in-Entries-clause-begins : goal.returns-in-Entries-clause-begins
returns-in-Entries-clause-begins c =
    subst (λ (r : Reading). BeginsSpelling (good r)) (sym c.in-Entries.is)
    (lines-begin _ _ c.next_line.ensures.spelled)
