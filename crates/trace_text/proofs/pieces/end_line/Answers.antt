use Rattle.std.proofs.Common.{◌∷◌, ◌++◌, refl}
use Rattle.std.proofs.lemmas.Result.{err_from_is_err_and}
use Rattle.specification.specs.TraceText.{BeginsSpelling}
use Rattle.format_words.proofs.Places.{is-there}
use Rattle.trace_text.specs.Causes.{cause_of}
use Rattle.trace_text.specs.Progress.{good}
use Rattle.trace_text.proofs.GrowingText.{holds, line-ended, lost-ended, right-ended}
use Rattle.trace_text.proofs.KeptLines.{stands-faulty}
use Rattle.trace_text.proofs.pieces.end_line.Goals as goal

pub returns-in_default-clause-fault : goal.returns-in_default-clause-fault
returns-in_default-clause-fault c = λ text behind ends.
    let lost =
    lost-ended (good c.args.reading.now) c.args.begun.now text c.args.back.now behind ends c.requires in
    holds _ _ (good c.args.reading.now) lost.0
    (is-there BeginsSpelling _ _ (good c.args.reading.now) lost.0 (lost.0 ++ 10 ∷ behind) behind lost.2 refl
    lost.1 c.next_line-number.ensures.number c.next_line-number.ensures.begins) tt

pub returns-in_err-line-clause-fault : goal.returns-in_err-line-clause-fault
returns-in_err-line-clause-fault c =
    let p = err_from_is_err_and c.from_residual.result c.from_residual.ensures.1 in
    let fault = c.in_err-line.field-0.0 in
    let kept = c.in-Some.line.now in
    let lines = good c.args.reading.now in
    rw (p.1, p.2) (λ text behind ends.
    let ended =
    line-ended lines c.args.begun.now c.add.new.self c.close.new.self kept text c.args.back.now behind
    ends c.requires c.add.ensures c.close.ensures c.in-Some.ensures in
    holds _ fault lines ended.0
    (is-there BeginsSpelling _ fault.line lines ended.0 (ended.0 ++ 10 ∷ behind) behind ended.3 refl ended.2
    c.in_err-line.ensures.number c.in_err-line.ensures.begins)
    (stands-faulty kept ended.0 lines (cause_of fault.cause) ended.1 c.in_err-line.ensures.fault))

pub returns-clause-ok : goal.returns-clause-ok
returns-clause-ok c = (
  c.in_ok-line.ensures.right,
  c.clear.ensures,
  λ text ends. right-ended (good c.args.reading.now) (good c.line.new.self) c.args.begun.now c.add.new.self
      c.close.new.self c.in-Some.line.now text c.args.back.now
      ends c.requires c.add.ensures c.close.ensures c.in-Some.ensures c.in_ok-line.ensures.ok
      c.in_ok-line.ensures.right,
)
