use Rattle.std.proofs.Common.{sym, ◌∙◌}
use Rattle.std.proofs.lemmas.Slice.Eq.{bytes_eq-Decides}
use Rattle.trace_text.proofs.KeptLines.{given-up-is}
use Rattle.trace_text.proofs.kept.KeptLine.is_given_up.Goals as goal

pub returns-then-word_len-eq0 : goal.returns-then-word_len-eq0
returns-then-word_len-eq0 c = λ same.
    given-up-is c.args.self.now (sym c.word_len.ensures.bytes ∙ c.if-word_len-eq0.true)
    (sym c.whole.ensures ∙ (bytes_eq-Decides c.whole.result.now c.as_slice.result.now).0
    (sym c.eq.ensures ∙ same) ∙ c.as_slice.ensures)
