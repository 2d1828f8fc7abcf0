-- The next word is a name, or it is none.
use Rattle.std.proofs.Common.{◌∙◌, [], List, sym, ap}
use Rattle.std.proofs.lemmas.Result.{err_from_is_err_and}
use Rattle.events.specs.Names.{NameBytes}
use Rattle.format_words.specs.Words.{words_behind}
use Rattle.format_words.specs.Reading.{names_at, onto}
use Rattle.format_words.proofs.NameRuns.{onto-nil, onto-word}
use Rattle.format_words.proofs.NamesRead.{some-word-at, names-stop}
use Rattle.format_words.proofs.name_list.push_next_word.Goals as goal

pub returns-in_err-word-clause-stop : goal.returns-in_err-word-clause-stop
returns-in_err-word-clause-stop c =
    absurd (some-word-at c.args.rest.now c.requires c.in_err-word.ensures.word)

pub returns-in_err-push_word-clause-stop : goal.returns-in_err-push_word-clause-stop
returns-in_err-push_word-clause-stop c =
    let p = err_from_is_err_and c.from_residual-in_err-push_word.result
    c.from_residual-in_err-push_word.ensures.1 in
    rw (p.1, p.2)
    (λ is. names-stop [] _ _ _ _ (onto-nil (names_at (words_behind c.args.rest.now)))
    c.in_ok-word.ensures.word (c.in_err-push_word.ensures is))

pub returns-clause-names : goal.returns-clause-names
returns-clause-names c =
    onto-word c.args.names.now _ _ _ c.in_ok-word.word.now c.in_ok-word.ensures.word
    c.in_ok-push_word.ensures.1
    ∙ ap (λ (l : List NameBytes). onto l (names_at (words_behind c.in_ok-word.behind.now)))
    (sym c.in_ok-push_word.ensures.0)
