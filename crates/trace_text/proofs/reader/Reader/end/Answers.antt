use Rattle.std.proofs.Common.{[], List, ℕ, IfOk, IfErr, IfSome, ◌∙◌, subst, sym}
use Rattle.std.proofs.lemmas.Bool.{false≢true}
use Rattle.std.proofs.lemmas.List.{append-nil}
use Rattle.std.proofs.lemmas.Result.{IfErr-weaker, IfOk-weaker}
use Rattle.specification.specs.TraceText.{IsFirstLineFault, Spells}
use Rattle.trace_text.specs.Causes.{cause_of}
use Rattle.trace_text.specs.Fed.{ReaderState, WasFed}
use Rattle.trace_text.proofs.FedText.{begun-cut, ended-right, ended-lacking, fault-of-all}
use Rattle.trace_text.specs.declared.cause.Cause.TheVariants as cause
use Rattle.trace_text.proofs.ReadBack.{only-memory, read-back}
use Rattle.trace_text.proofs.reader.Reader.end.Goals as goal

pub returns-then-not-is_empty-clause-fault : goal.returns-then-not-is_empty-clause-fault
returns-then-not-is_empty-clause-fault c = λ text fed.
    begun-cut _ text c.next_line.result c.in_default.is (λ none. false≢true (sym c.if-not-is_empty.true
    ∙ c.is_empty.ensures.1 none)) c.next_line.ensures.number
    (subst (λ (r : ReaderState). WasFed r text) (sym c.self.view_is) fed)

pub returns-clause-ok : goal.returns-clause-ok
returns-clause-ok c =
    subst (λ (r : ReaderState). IfOk c.end.result (λ h. (text : List ℕ) → WasFed r text → Spells text h))
    c.self.view_is
    (ended-right c.end.result _ c.in_default.is (c.is_empty.ensures.0 c.if-not-is_empty.false)
    c.end.ensures.ok)

pub returns-clause-fault : goal.returns-clause-fault
returns-clause-fault c =
    subst (λ (r : ReaderState). IfErr c.end.result (λ fault. (text : List ℕ) → WasFed r text
    → IfSome (cause_of fault.cause) (IsFirstLineFault text fault.line))) c.self.view_is
    (ended-lacking c.end.result _ c.in_default.is (c.is_empty.ensures.0 c.if-not-is_empty.false)
    c.end.ensures.begins c.end.ensures.number c.end.ensures.fault)

pub returns-then-not-is_empty-clause-spelled : goal.returns-then-not-is_empty-clause-spelled
returns-then-not-is_empty-clause-spelled c = λ text h fed spelled.
    only-memory text h spelled c.next_line.result cause.Cut
    (returns-then-not-is_empty-clause-fault c text fed)

pub returns-clause-spelled : goal.returns-clause-spelled
returns-clause-spelled c = λ text h fed.
    read-back text c.end.result
    (IfOk-weaker c.end.result _ _ (λ g spells. spells text fed) (returns-clause-ok c))
    (IfErr-weaker c.end.result _ _ (λ fault first. first text fed) (returns-clause-fault c)) h

pub returns-in-Some-clause-spelled : goal.returns-in-Some-clause-spelled
returns-in-Some-clause-spelled c = λ text h fed spelled.
    let fault = c.in-Some.fault in
    only-memory text h spelled fault.line fault.cause
    (subst (λ t. IfSome (cause_of fault.cause) (IsFirstLineFault t fault.line)) (append-nil text)
    (fault-of-all _ text [] fault c.in-Some.is
    (subst (λ (r : ReaderState). WasFed r text) (sym c.self.view_is) fed)))
