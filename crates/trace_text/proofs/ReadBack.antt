-- What is spelled is read, unless memory runs out.
use Rattle.std.proofs.Common.{◌≡◌, ℕ, List, refl, ap, Result, Ok, Err, MatchResult, IfOk, IfErr, IfSome}
use Rattle.events.specs.History.{History}
use Rattle.events.specs.declared.refusal.Refusal.{Refusal}
use Rattle.events.specs.declared.refusal.Refusal.TheVariants as refusal
use Rattle.specification.specs.TraceText as format
use Rattle.specification.specs.TraceText.{Spells, IsFirstLineFault}
use Rattle.trace_text.specs.Causes.{cause_of, refusal_cause}
use Rattle.trace_text.specs.declared.cause.Cause.{Cause}
use Rattle.trace_text.specs.declared.cause.Cause.TheVariants as cause
use Rattle.trace_text.specs.declared.cause.LineFault.{LineFault}
use Rattle.trace_text.proofs.OneReading.{one-recording, no-fault}

module _ (text : List ℕ) (h : History) (spelled : Spells text h) (line : ℕ) where
  only-refused : (why : Refusal) → IfSome (refusal_cause why) (IsFirstLineFault text line)
      → why ≡ refusal.Memory
  only-refused refusal.NoReplica fault =
      absurd (no-fault h text line (format.refused refusal.NoReplica) spelled fault)
  only-refused refusal.OwnReceipt fault =
      absurd (no-fault h text line (format.refused refusal.OwnReceipt) spelled fault)
  only-refused (refusal.NotYet have) fault =
      absurd (no-fault h text line (format.refused (refusal.NotYet have)) spelled fault)
  only-refused refusal.EntriesFull fault =
      absurd (no-fault h text line (format.refused refusal.EntriesFull) spelled fault)
  only-refused refusal.InsertsFull fault =
      absurd (no-fault h text line (format.refused refusal.InsertsFull) spelled fault)
  only-refused refusal.LongResponse fault =
      absurd (no-fault h text line (format.refused refusal.LongResponse) spelled fault)
  only-refused refusal.PlacesFull fault =
      absurd (no-fault h text line (format.refused refusal.PlacesFull) spelled fault)
  only-refused refusal.Memory fault = refl

  -- a text that spells a recording has no fault but out of memory
  pub only-memory : (c : Cause) → IfSome (cause_of c) (IsFirstLineFault text line)
      → c ≡ cause.Refused refusal.Memory
  only-memory cause.Header fault = absurd (no-fault h text line format.header spelled fault)
  only-memory cause.Replicas fault = absurd (no-fault h text line format.replicas spelled fault)
  only-memory cause.Shape fault = absurd (no-fault h text line format.shape spelled fault)
  only-memory cause.Cut fault = absurd (no-fault h text line format.cut spelled fault)
  only-memory (cause.Refused why) fault = ap cause.Refused (only-refused why fault)

pub read-back : (text : List ℕ) (result : Result History LineFault) → IfOk result (Spells text)
    → IfErr result (λ fault. IfSome (cause_of fault.cause) (IsFirstLineFault text fault.line)) →
    (h : History) → Spells text h
    → MatchResult result (λ g. g ≡ h) (λ fault. fault.cause ≡ cause.Refused refusal.Memory)
read-back text (Ok g) ok fault h spelled = one-recording text g h ok spelled
read-back text (Err e) ok fault h spelled = only-memory text h spelled e.line e.cause fault
