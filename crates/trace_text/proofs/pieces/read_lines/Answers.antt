use Rattle.std.proofs.lemmas.Result.{err_from_is_err_and}
use Rattle.specification.specs.TraceText.{BeginsSpelling}
use Rattle.format_words.proofs.Places.{is-there, takes-at}
use Rattle.trace_text.specs.Place.{TakesMemory}
use Rattle.trace_text.specs.Progress.{good}
use Rattle.trace_text.proofs.GrowingText.{holds}
use Rattle.trace_text.proofs.pieces.read_lines.Goals as goal

pub returns-in_err-line : goal.returns-in_err-line
returns-in_err-line c =
    let p = err_from_is_err_and c.from_residual.result c.from_residual.ensures.1 in
    let fault = c.in_err-line.field-0.0 in
    let cut = c.in-Some.ensures in
    let at = is-there BeginsSpelling _ fault.line (good c.loop-line.reading) c.in-Some.line.now
    c.loop-line.rest.now c.in-Some.behind.now c.loop-line.invariant.whole cut.1 cut.0
    c.in_err-line.ensures.number c.in_err-line.ensures.begins in
    rw (p.1, p.2) (record {
      ok = tt;
      right = tt;
      fault = holds _ fault (good c.loop-line.reading) c.in-Some.line.now at c.in_err-line.ensures.fault;
      memory = λ is. takes-at BeginsSpelling TakesMemory _ fault.line (good c.loop-line.reading)
          c.in-Some.line.now at (c.in_err-line.ensures.memory is);
    })
