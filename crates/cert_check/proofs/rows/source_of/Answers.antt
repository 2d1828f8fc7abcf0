-- The first word is the source.
use Rattle.cert_check.proofs.RowWords.{source-word, source-none}
use Rattle.cert_check.proofs.rows.source_of.Goals as goal

pub returns-in-Ok : goal.returns-in-Ok
returns-in-Ok c = λ k row says. source-word k row _ _ _ says c.in-Ok.ensures.word

pub returns-in-Err : goal.returns-in-Err
returns-in-Err c = λ k row says. source-none k row _ says c.in-Err.ensures.word
