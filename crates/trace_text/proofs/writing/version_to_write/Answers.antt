use Rattle.std.proofs.Common.{arith, sym, ap, ◌∙◌}
use Rattle.std.proofs.lemmas.List.{take_all}
use Rattle.specification.specs.TraceText.{version_of}
use Rattle.trace_text.proofs.Written.{front-plain, view-there}
use Rattle.trace_text.proofs.writing.version_to_write.Goals as goal

pub loop-i-preserved : goal.loop-i-preserved
loop-i-preserved c =
    front-plain c.args.recording.now c.loop-i.i c.has_view_at.result c.has_view_at.ensures
    c.if-has_view_at.false (omega arith) c.loop-i.invariant

pub returns-then-has_view_at : goal.returns-then-has_view_at
returns-then-has_view_at c =
    sym (view-there c.args.recording.now c.loop-i.i c.has_view_at.result c.has_view_at.ensures
    c.if-has_view_at.true)

pub returns : goal.returns
returns c =
    sym (sym (ap version_of (take_all c.loop-i.i c.args.recording.now.entries (omega arith)))
    ∙ c.loop-i.invariant)
