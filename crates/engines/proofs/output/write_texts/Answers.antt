use Rattle.std.proofs.Common.{◌∙◌, refl, ap, subst, Vec, Global, ℕ, List}
use Rattle.std.specs.Io.KnownBytes.{Appends}
use Rattle.byte_streams.specs.Streams.{AppendsFront}
use Rattle.std.proofs.KnownBytes.{Appends-nil}
use Rattle.engines.proofs.Failures.{fails-to-write, stays-shut, written-first, written-more}
use Rattle.engines.proofs.JoinedTexts.{written_front, written_next}
use Rattle.engines.proofs.output.write_texts.Goals as goal

pub loop-text-init : goal.loop-text-init
loop-text-init g c = record {
  appended = Appends-nil c.args.sink.now.bytes;
  writes = written-first c.args.sink.now;
}

pub loop-text-preserved : goal.loop-text-preserved
loop-text-preserved g c =
    let text = c.text-item.result in
    let wrote = c.in-Ok.ensures in
    let is = c.deref.ensures.value ∙ ap (λ (t : Vec ℕ Global). t.items) c.text-item.is in
    record {
      appended = written_next c.args.sink.now.bytes c.loop-text.sink.bytes c.write_whole.new.self.bytes
          c.args.texts.now c.loop-text.text-index text c.loop-text-test.true c.loop-text.invariant.appended
          (subst (λ (l : List ℕ). Appends c.loop-text.sink.bytes c.write_whole.new.self.bytes l) is
          wrote.ok.0);
      writes = written-more c.args.sink.now c.loop-text.sink c.write_whole.new.self _
          c.loop-text.invariant.writes wrote.ok.1 wrote.made
          (λ shut. stays-shut _ c.loop-text.sink c.write_whole.new.self (wrote.closed shut) wrote.nothing);
    }

pub returns-in-Err-clause-err : goal.returns-in-Err-clause-err
returns-in-Err-clause-err g c =
    let text = c.text-item.result in
    let is = c.deref.ensures.value ∙ ap (λ (t : Vec ℕ Global). t.items) c.text-item.is in (
      refl,
      c.in-Err.ensures.err.1,
      written_front c.args.sink.now.bytes c.loop-text.sink.bytes c.write_whole.new.self.bytes c.args.texts.now
          c.loop-text.text-index text c.loop-text-test.true c.loop-text.invariant.appended
          (subst (λ (l : List ℕ). AppendsFront c.loop-text.sink.bytes c.write_whole.new.self.bytes l) is
          c.in-Err.ensures.err.0),
    )

pub returns-in-Err-clause-failed_write : goal.returns-in-Err-clause-failed_write
returns-in-Err-clause-failed_write g c =
    let wrote = c.in-Err.ensures in
    fails-to-write c.args.sink.now c.loop-text.sink c.write_whole.new.self _ c.loop-text.invariant.writes
    wrote.err.1 wrote.made
    (λ shut. stays-shut _ c.loop-text.sink c.write_whole.new.self (wrote.closed shut) wrote.nothing)

pub returns-in-Err-clause-closed_sink : goal.returns-in-Err-clause-closed_sink
returns-in-Err-clause-closed_sink g c = λ was.
    let wrote = c.in-Err.ensures in
    let writes = c.loop-text.invariant.writes in
    stays-shut _ c.loop-text.sink c.write_whole.new.self (wrote.closed (writes.failed ∙ was)) wrote.nothing
    ∙ writes.closed was
