use Rattle.std.proofs.Common.{◌∷◌, [], arith, subst, sym, ◌∙◌}
use Rattle.std.proofs.lemmas.Bool.{false≢true}
use Rattle.std.proofs.lemmas.Result.{on_ok_weaker}
use Rattle.trace_text.specs.Kept.{Keeps}
use Rattle.trace_text.proofs.KeptLines.{name-left-out, word-given-up, word-kept}
use Rattle.trace_text.proofs.kept.KeptLine.end_word.Goals as goal

pub returns-then-whole_len-lt-LONG_LINE : goal.returns-then-whole_len-lt-LONG_LINE
returns-then-whole_len-lt-LONG_LINE c =
    on_ok_weaker c.take_word.result
    (λ is. subst (Keeps c.args.self.now (32 ∷ [])) (sym is)
    (word-kept c.args.self.now (omega (arith, c.if-whole_len-lt-LONG_LINE.true, c.whole_len.ensures))))
    c.take_word.ensures

pub returns-then-not-has_name : goal.returns-then-not-has_name
returns-then-not-has_name c =
    on_ok_weaker c.give_up.result
    (λ is. subst (Keeps c.args.self.now (32 ∷ [])) (sym is) (word-given-up c.args.self.now
    (omega (arith, c.if-whole_len-lt-LONG_LINE.false, c.whole_len.ensures))
    (λ name. false≢true (sym c.if-not-has_name.true ∙ c.has_name.ensures.1 name))))
    c.give_up.ensures

pub returns : goal.returns
returns c =
    subst (Keeps c.args.self.now (32 ∷ [])) (sym c.leave_out.ensures)
    (name-left-out c.args.self.now (omega (arith, c.if-whole_len-lt-LONG_LINE.false, c.whole_len.ensures))
    (c.has_name.ensures.0 c.if-not-has_name.false))
