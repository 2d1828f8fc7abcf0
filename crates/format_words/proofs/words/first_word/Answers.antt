use Rattle.format_words.proofs.FirstWord.{first-word}
use Rattle.format_words.proofs.words.first_word.Goals as goal

pub returns-clause-words : goal.returns-clause-words
returns-clause-words c =
    let place = c.unwrap_or-end.ensures in
    let cut = c.split_at.ensures in
    Prim.rw (cut.front, cut.back)
    (first-word c.args.text.now c.unwrap_or-end.result (Prim.rw (← c.place_of.ensures) place))
