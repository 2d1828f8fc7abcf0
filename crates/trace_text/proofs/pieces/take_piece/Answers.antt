use Rattle.std.proofs.Common.{◌∙◌, ◌++◌, inl, inr, subst, sym}
use Rattle.std.proofs.lemmas.Bool.{false≢true}
use Rattle.std.proofs.lemmas.Result.{err_from_is_err_and, IfErr-weaker}
use Rattle.specification.specs.Lines.{text_of}
use Rattle.trace_text.specs.Progress.{good}
use Rattle.trace_text.specs.Fed.{HoldsFault}
use Rattle.trace_text.specs.Place.{TakesMemoryAt}
use Rattle.trace_text.proofs.GrowingText.{behind-end, cut-there, ends-at, ends-on, piece-read}
use Rattle.trace_text.proofs.pieces.take_piece.Goals as goal

pub returns-then-is_empty-clause-memory : goal.returns-then-is_empty-clause-memory
returns-then-is_empty-clause-memory c =
    IfErr-weaker c.take_lines.result _ _
    (λ fault h is text open_at. inl (subst (λ t. TakesMemoryAt (t ++ c.args.piece.now) fault.line)
    (sym (ends-at (good c.args.reading.now) c.args.begun.now text open_at.1
    (c.is_empty.ensures.0 c.if-is_empty.true))) (h is)))
    c.take_lines.ensures.memory

pub returns-in_default-clause-ok : goal.returns-in_default-clause-ok
returns-in_default-clause-ok c = λ text open_at. (
  open_at.0,
  ends-on (good c.args.reading.now) c.args.begun.now c.add.new.self text c.args.piece.now open_at.1
      c.in_default.ensures c.add.ensures,
)

pub returns-in_err-end_line-clause-memory : goal.returns-in_err-end_line-clause-memory
returns-in_err-end_line-clause-memory c =
    let p = err_from_is_err_and c.from_residual.result c.from_residual.ensures.1 in
    let fault = c.in_err-end_line.field-0.0 in
    rw (p.1, p.2)
    (λ is text open_at. inr
    (cut-there (good c.args.reading.now) c.args.begun.now text fault.line open_at.0 open_at.1
    (λ none. false≢true (sym c.if-is_empty.false ∙ c.is_empty.ensures.1 none))
    c.in_err-end_line.ensures.number))

pub returns-clause-memory : goal.returns-clause-memory
returns-clause-memory c =
    IfErr-weaker c.take_lines-2.result _ _
    (λ fault h is text open_at. inl (subst (λ t. TakesMemoryAt t fault.line)
    (sym (behind-end text c.in-Some.back.now c.in-Some.behind.now (text_of (good c.end_line.new.reading))
    c.args.piece.now (c.in_ok-end_line.ensures.ok.2 text open_at.1) c.in-Some.ensures.1)) (h is)))
    c.take_lines-2.ensures.memory

pub returns-then-is_empty-clause-ok : goal.returns-then-is_empty-clause-ok
returns-then-is_empty-clause-ok c =
    piece-read c.take_lines.result (good c.args.reading.now)
    (good c.take_lines.new.reading) c.args.begun.now c.take_lines.new.begun c.args.piece.now
    (c.is_empty.ensures.0 c.if-is_empty.true) c.take_lines.ensures.ok c.take_lines.ensures.right

pub returns-then-is_empty-clause-fault : goal.returns-then-is_empty-clause-fault
returns-then-is_empty-clause-fault c =
    IfErr-weaker c.take_lines.result _ _
    (λ fault h text open_at. subst (λ t. HoldsFault (t ++ c.args.piece.now) fault)
    (sym (ends-at (good c.args.reading.now) c.args.begun.now text open_at.1
    (c.is_empty.ensures.0 c.if-is_empty.true))) h)
    c.take_lines.ensures.fault
