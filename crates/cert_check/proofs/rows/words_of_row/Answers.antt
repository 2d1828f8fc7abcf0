-- What follows the first word says the row.
use Rattle.cert_check.proofs.RowWords.{line-says}
use Rattle.cert_check.proofs.rows.words_of_row.Goals as goal

pub returns : goal.returns
returns c =
    λ k row is spelled. line-says k row c.args.line.now c.first_word.result.0.now c.first_word.result.1.now is
    spelled c.first_word.ensures.words
