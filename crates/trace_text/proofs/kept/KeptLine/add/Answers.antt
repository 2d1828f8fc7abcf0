use Rattle.std.proofs.Common.{arith, subst, sym}
use Rattle.std.proofs.lemmas.Result.{on_ok_weaker}
use Rattle.trace_text.specs.Kept.{Kept, Keeps}
use Rattle.trace_text.proofs.KeptLines.{at-once-kept, still-given-up}
use Rattle.trace_text.proofs.kept.KeptLine.add.Goals as goal

pub returns-then-is_given_up : goal.returns-then-is_given_up
returns-then-is_given_up c =
    subst (λ (k : Kept). Keeps k c.args.bytes.now k) (sym (c.is_given_up.ensures c.if-is_given_up.true))
    (still-given-up c.args.bytes.now)

pub returns-then-has_room : goal.returns-then-has_room
returns-then-has_room c =
    let cut = c.in-Some.ensures in
    on_ok_weaker c.add_at_once.result
    (λ is. subst (Keeps c.args.self.now c.args.bytes.now) (sym is)
    (at-once-kept c.args.self.now c.args.bytes.now c.in-Some.words.now c.in-Some.part.now cut.last.1
    cut.last.0 cut.words (omega (arith, c.if-part.true)) (c.has_room.ensures c.if-has_room.true)))
    c.add_at_once.ensures
