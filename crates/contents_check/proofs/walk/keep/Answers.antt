-- The operation is kept, or found to be covered by one that is.
use Rattle.std.proofs.Common.{ap, arith}
use Rattle.std.specs.Prelude.{◌≤◌}
use Rattle.events.specs.Operation.{Operation}
use Rattle.visibility.proofs.Known.{within}
use Rattle.contents_check.proofs.Keeping.{on_ok-three, part-left_out, found-left_out, kept-more}
use Rattle.contents_check.proofs.walk.keep.Goals as goal

pub returns-then-e-gt1 : goal.returns-then-e-gt1
returns-then-e-gt1 c =
    let more : 2 ≤ c.args.e.n = omega (arith, c.if-e-gt1.true, ap (λ (o : Operation). o.n) c.e.view_is) in
    part-left_out c.args.recording.now c.args.e (within c.args.recording.now c.args.e c.requires.operation).0
    c.args.row.now c.args.covering.now more (c.requires.part c.if-is_part.true)

pub returns-then-is_covered_by_last : goal.returns-then-is_covered_by_last
returns-then-is_covered_by_last c =
    found-left_out c.args.recording.now c.args.e (within c.args.recording.now c.args.e c.requires.operation).0
    c.args.row.now c.args.covering.now c.as_slice.result.now c.as_slice.ensures.value
    (c.is_covered_by_last.ensures c.if-is_covered_by_last.true)

pub returns : goal.returns
returns c =
    on_ok-three c.add.result
    (λ operations cut rows. kept-more c.args.recording.now c.args.e
    (within c.args.recording.now c.args.e c.requires.operation).0 c.args.row.now c.args.covering.now
    c.add.new.self operations cut rows)
    c.add.ensures.operations c.add.ensures.cut c.add.ensures.rows
