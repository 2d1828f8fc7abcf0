use Rattle.std.proofs.Common.{arith, subst, sym}
use Rattle.std.proofs.lemmas.Result.{on_ok_weaker}
use Rattle.trace_text.specs.Kept.{Keeps}
use Rattle.trace_text.proofs.KeptLines.{part-kept, part-given-up}
use Rattle.trace_text.proofs.kept.KeptLine.add_part.Goals as goal

pub returns-then-word_len-part : goal.returns-then-word_len-part
returns-then-word_len-part c =
    on_ok_weaker c.give_up.result
    (λ is. subst (Keeps c.args.self.now c.args.part.now) (sym is)
    (part-given-up c.args.self.now c.args.part.now c.requires
    (omega (arith, c.if-word_len-part.true, c.word_len.ensures.bytes))))
    c.give_up.ensures

pub returns : goal.returns
returns c =
    on_ok_weaker c.grow_word.result
    (λ is. subst (Keeps c.args.self.now c.args.part.now) (sym is)
    (part-kept c.args.self.now c.args.part.now c.requires
    (omega (arith, c.if-word_len-part.false, c.word_len.ensures.bytes))))
    c.grow_word.ensures
