use Rattle.std.proofs.Common.{[], ◌++◌, ◌<◌, arith, length, length-take, refl, rules, sym, take, ℕ}
use Rattle.byte_streams.proofs.Calls.{is-false, nothing-read, read-more, some-is-none}
use Rattle.engines.proofs.Failures.{fails-to-read, still-first, still-more}
use Rattle.engines.proofs.trace_source.read_on.Goals as goal

pub loop-n-init : goal.loop-n-init
loop-n-init g c = ([], nothing-read c.args.source.now, still-first c.args.source.now)

pub loop-n-preserved : goal.loop-n-preserved
loop-n-preserved g c =
    let so_far = c.loop-n.invariant in
    let read = c.in-Some.ensures in
    let came = take c.in-Some.n c.read.new.buffer in
    let some : 0 < length c.read.new.buffer = search rules in
    let ready = read.went.2 (omega (arith, c.if-n-eq0.false)) in (
      so_far.0 ++ came,
      read-more _ _ _ so_far.0 came _ so_far.1
          (omega (arith, c.if-n-eq0.false, read.within, length-take {A = ℕ})) (read.asked ready some),
      still-more c.args.source.now c.loop-n.source c.read.new.self so_far.2 ready read.went.0
          (is-false _ (λ done. c.if-n-eq0.false ((read.end some).0 done))) (read.asked ready some).0,
    )

pub returns-clause-failed_read : goal.returns-clause-failed_read
returns-clause-failed_read g c =
    let so_far = c.loop-n.invariant in
    let read = c.in_default.ensures in
    let some : 0 < length c.read.new.buffer = search rules in
    fails-to-read c.args.source.now c.loop-n.source c.read.new.self so_far.0 _ so_far.2 so_far.1
    (read.failed refl).1 (λ done. some-is-none (sym (read.ended done).0)) (λ shut. (read.closed shut).1)
    (λ ready. read.asked ready some)
