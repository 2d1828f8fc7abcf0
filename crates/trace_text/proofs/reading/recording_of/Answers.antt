use Rattle.std.proofs.Common.{sym, ap, ◌∙◌, inl, inr, Err}
use Rattle.std.proofs.lemmas.Result.{err_from_is_err_and}
use Rattle.specification.specs.TraceText.{replicas_line}
use Rattle.trace_text.proofs.SecondLine.{replicas-spells, no-second-line, bad-number, good-number}
use Rattle.trace_text.proofs.TakingLines.{not-none, not-many}
use Rattle.trace_text.proofs.reading.recording_of.Goals as goal

pub returns-in_err-replicas-clause-shape : goal.returns-in_err-replicas-clause-shape
returns-in_err-replicas-clause-shape c =
    let p = err_from_is_err_and c.from_residual.result c.from_residual.ensures.1 in
    rw (p.1, p.2) (λ is. no-second-line c.args.line.now c.in_err-replicas.ensures)

pub returns-in-Ok-clause-ok : goal.returns-in-Ok-clause-ok
returns-in-Ok-clause-ok c =
    let made = c.in-Ok.ensures.ok in (
      made.1,
      replicas-spells c.args.line.now c.in_ok-replicas.replicas c.in_ok-replicas.ensures
          ∙ ap replicas_line (sym made.0),
    )

pub returns-in-Err-NoReplicas-clause-shape : goal.returns-in-Err-NoReplicas-clause-shape
returns-in-Err-NoReplicas-clause-shape c =
    let none = c.new.ensures.no_replicas.0 (c.in-Err-NoReplicas.is ∙ ap Err c.in-Err-NoReplicas.field-0-is) in
    λ _. bad-number c.args.line.now c.in_ok-replicas.replicas c.in_ok-replicas.ensures (inl none)

pub returns-in-Err-ManyReplicas-clause-shape : goal.returns-in-Err-ManyReplicas-clause-shape
returns-in-Err-ManyReplicas-clause-shape c =
    let many =
    c.new.ensures.many_replicas.0 (c.in-Err-ManyReplicas.is ∙ ap Err c.in-Err-ManyReplicas.field-0-is) in
    λ _. bad-number c.args.line.now c.in_ok-replicas.replicas c.in_ok-replicas.ensures (inr many)

pub returns-in-Err-Memory-clause-memory : goal.returns-in-Err-Memory-clause-memory
returns-in-Err-Memory-clause-memory c =
    let wanted = c.in-Err-Memory.is ∙ ap Err c.in-Err-Memory.field-0-is in
    λ _. good-number c.args.line.now c.in_ok-replicas.replicas c.in_ok-replicas.ensures
    (λ none. not-none c.new.result wanted (c.new.ensures.no_replicas.1 none))
    (λ many. not-many c.new.result wanted (c.new.ensures.many_replicas.1 many))
