use Rattle.std.proofs.Common.{◌∷◌, []}
use Rattle.trace_text.proofs.KeptLines.{given-up-stays}
use Rattle.trace_text.proofs.kept.KeptLine.add_word.Goals as goal

pub returns-then-is_given_up : goal.returns-then-is_given_up
returns-then-is_given_up c =
    given-up-stays c.args.self.now c.add_part.new.self c.args.part.now (32 ∷ []) c.in_ok-add_part.ensures
    (c.is_given_up.ensures c.if-is_given_up.true)
