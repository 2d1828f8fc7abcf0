use Rattle.std.proofs.Common.{[], ◌++◌, ◌∙◌, ◌<◌, arith, inl, inr, length, length-take, refl, rules, subst, sym, take, ℕ}
use Rattle.std.proofs.KnownBytes.{Consumes-nil, Consumes-trans}
use Rattle.std.proofs.lemmas.Result.{IfErr-weaker, err_from_is_err_and}
use Rattle.byte_streams.specs.Streams.{IsClosed}
use Rattle.byte_streams.proofs.Calls.{is-false, nothing-read, read-more, some-is-none}
use Rattle.trace_text.proofs.FedText.{unfed}
use Rattle.engines.proofs.Failures.{fails-to-read, has-read-on, open-before, open-not-closed, still-first}
use Rattle.engines.proofs.Failures.{still-more}
use Rattle.engines.proofs.LineFaults.{names-of-front}
use Rattle.engines.proofs.PiecesRead.{none-faulty, ran-out}
use Rattle.engines.proofs.trace_source.recording_from.Goals as goal

pub loop-n-init : goal.loop-n-init
loop-n-init g c = (
  [],
  Consumes-nil c.args.source.now.bytes,
  unfed c.new-reader.result c.new-reader.ensures,
  none-faulty c.new-reader.result c.new-reader.ensures,
  nothing-read c.args.source.now,
  still-first c.args.source.now,
)

pub loop-n-preserved : goal.loop-n-preserved
loop-n-preserved g c =
    let so_far = c.loop-n.invariant in
    let read = c.in-Some.ensures in
    let came = take c.in-Some.n c.read.new.buffer in
    let some : 0 < length c.read.new.buffer = search rules in
    let ready = read.went.2 (omega (arith, c.if-n-eq0.false)) in (
      so_far.0 ++ came,
      Consumes-trans _ _ _ so_far.0 came so_far.1 read.bytes.0,
      c.feed.ensures.fed so_far.0 so_far.2,
      c.in_ok-feed.ensures.none,
      read-more _ _ _ so_far.0 came _ so_far.4
          (omega (arith, c.if-n-eq0.false, read.within, length-take {A = ℕ}))
          (read.asked ready some),
      still-more c.args.source.now c.loop-n.source c.read.new.self so_far.5 ready read.went.0
          (is-false _ (λ done. c.if-n-eq0.false ((read.end some).0 done))) (read.asked ready some).0,
    )

pub returns-in_err-feed-clause-trace : goal.returns-in_err-feed-clause-trace
returns-in_err-feed-clause-trace g c =
    let p = err_from_is_err_and c.from_residual.result c.from_residual.ensures.1 in
    let fault = c.in_err-feed.field-0.0 in
    let so_far = c.loop-n.invariant in
    let came = take c.in-Some.n c.read.new.buffer in
    rw (p.1, p.2) (names-of-front c.args.source.now.bytes c.read.new.self.bytes (so_far.0 ++ came) fault
    (Consumes-trans c.args.source.now.bytes c.loop-n.source.bytes c.read.new.self.bytes so_far.0 came so_far.1
    c.in-Some.ensures.bytes.0)
    (λ more. c.in_err-feed.ensures.trace so_far.0 more so_far.2))

pub returns-in_err-feed-clause-place : goal.returns-in_err-feed-clause-place
returns-in_err-feed-clause-place g c =
    let p = err_from_is_err_and c.from_residual.result c.from_residual.ensures.1 in
    let so_far = c.loop-n.invariant in
    let read = c.in-Some.ensures in
    let came = take c.in-Some.n c.read.new.buffer in
    let some : 0 < length c.read.new.buffer = search rules in
    rw (p.1, p.2)
    (λ memory. ran-out c.args.source.now c.loop-n.source c.read.new.self so_far.0 came _ so_far.1
    read.bytes.0 so_far.4
    (read.asked (read.went.2 (omega (arith, c.if-n-eq0.false))) some).1
    (c.in_err-feed.ensures.place so_far.3 memory so_far.0 so_far.2))

pub returns-in_err-feed-clause-read_on : goal.returns-in_err-feed-clause-read_on
returns-in_err-feed-clause-read_on g c =
    let p = err_from_is_err_and c.from_residual.result c.from_residual.ensures.1 in
    let so_far = c.loop-n.invariant in
    let read = c.in-Some.ensures in
    let came = take c.in-Some.n c.read.new.buffer in
    let some : 0 < length c.read.new.buffer = search rules in
    let ready = read.went.2 (omega (arith, c.if-n-eq0.false)) in
    rw (p.1, p.2)
    (λ _. inr (has-read-on c.args.source.now c.loop-n.source c.read.new.self so_far.0 (so_far.0 ++ came)
    so_far.5 so_far.4 (read-more _ _ _ so_far.0 came _ so_far.4
    (omega (arith, c.if-n-eq0.false, read.within, length-take {A = ℕ})) (read.asked ready some)) ready
    read.went.0 (is-false _ (λ done. c.if-n-eq0.false ((read.end some).0 done)))
    (read.asked ready some).0))

pub returns-in_err-feed-clause-closed_source : goal.returns-in_err-feed-clause-closed_source
returns-in_err-feed-clause-closed_source g c = λ shut.
    let so_far = c.loop-n.invariant in
    let ready = c.in-Some.ensures.went.2 (omega (arith, c.if-n-eq0.false)) in
    absurd (open-not-closed c.args.source.now
    (open-before c.args.source.now c.loop-n.source so_far.0 so_far.5 so_far.4 ready) shut)

pub returns-then-n-eq0-clause-read_on : goal.returns-then-n-eq0-clause-read_on
returns-then-n-eq0-clause-read_on g c =
    let some : 0 < length c.read.new.buffer = search rules in
    let done = (c.in-Some.ensures.end some).1 c.if-n-eq0.true in
    IfErr-weaker c.end.result _ _ (λ fault _ _. inl done) c.end.ensures.faults

pub returns-then-n-eq0-clause-closed_source : goal.returns-then-n-eq0-clause-closed_source
returns-then-n-eq0-clause-closed_source g c = λ shut.
    let still = c.loop-n.invariant.5 in
    absurd (some-is-none (c.in-Some.ensures.closed (subst IsClosed (sym (still.closed shut)) shut)).0)

pub returns-clause-failed_read : goal.returns-clause-failed_read
returns-clause-failed_read g c = λ _.
    let so_far = c.loop-n.invariant in
    let read = c.in_default.ensures in
    let some : 0 < length c.read.new.buffer = search rules in
    fails-to-read c.args.source.now c.loop-n.source c.read.new.self so_far.0 _ so_far.5 so_far.4
    (read.failed refl).1 (λ done. some-is-none (sym (read.ended done).0)) (λ shut. (read.closed shut).1)
    (λ ready. read.asked ready some)

pub returns-clause-closed_source : goal.returns-clause-closed_source
returns-clause-closed_source g c = λ shut.
    let same = c.loop-n.invariant.5.closed shut in
    (refl, (c.in_default.ensures.closed (subst IsClosed (sym same) shut)).1 ∙ same)
