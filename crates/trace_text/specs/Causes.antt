-- The causes of a line's fault, as the format has them. Out of memory is no fault of the text.
use Rattle.std.specs.Prelude.{Option, Some, None}
use Rattle.specification.specs.TraceText as format
use Rattle.events.specs.declared.refusal.Refusal.{Refusal}
use Rattle.events.specs.declared.refusal.Refusal.TheVariants as refusal
use Rattle.trace_text.specs.declared.cause.Cause.{Cause}
use Rattle.trace_text.specs.declared.cause.Cause.TheVariants as cause

abbrev pub refusal_cause : Refusal → Option format.Cause
refusal_cause refusal.NoReplica = Some (format.refused refusal.NoReplica)
refusal_cause refusal.OwnReceipt = Some (format.refused refusal.OwnReceipt)
refusal_cause (refusal.NotYet have) = Some (format.refused (refusal.NotYet have))
refusal_cause refusal.EntriesFull = Some (format.refused refusal.EntriesFull)
refusal_cause refusal.InsertsFull = Some (format.refused refusal.InsertsFull)
refusal_cause refusal.LongResponse = Some (format.refused refusal.LongResponse)
refusal_cause refusal.PlacesFull = Some (format.refused refusal.PlacesFull)
refusal_cause refusal.Memory = None

abbrev pub cause_of : Cause → Option format.Cause
cause_of cause.Header = Some format.header
cause_of cause.Replicas = Some format.replicas
cause_of cause.Shape = Some format.shape
cause_of cause.Cut = Some format.cut
cause_of (cause.Refused why) = refusal_cause why
