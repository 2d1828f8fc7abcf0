use Rattle.std.proofs.Common.{◌≡◌, length, arith}
use Rattle.std.proofs.lemmas.Grind.{common_steps}
use Rattle.std.proofs.lemmas.Result.{err_from_is_err_and}
use Rattle.format_words.specs.Words.{words_behind}
use Rattle.format_words.proofs.FirstWord.{none-behind}
use Rattle.format_words.proofs.NamesRead.{some-word-at, names-end, names-more, names-stop}
use Rattle.format_words.proofs.name_list.grown_names.Goals as goal

pub returns-in_err-word : goal.returns-in_err-word
returns-in_err-word c =
    absurd (some-word-at c.loop-rest.rest.now (grind (arith, common_steps)) c.in_err-word.ensures.word)

pub returns-in_err-name_of : goal.returns-in_err-name_of
returns-in_err-name_of c =
    let p = err_from_is_err_and c.from_residual-in_err-name_of.result
    c.from_residual-in_err-name_of.ensures.1 in
    rw (p.1, p.2)
    (λ is. names-stop c.loop-rest.names.items _ _ _ _ c.loop-rest.invariant c.in_ok-word.ensures.word
    c.in_err-name_of.ensures)

pub loop-rest-preserved : goal.loop-rest-preserved
loop-rest-preserved c =
    let pushed = c.in_ok-push.ensures.items in
    rw pushed
    (names-more c.loop-rest.names.items _ _ _ _ c.in_ok-name_of.field-0 c.loop-rest.invariant
    c.in_ok-word.ensures.word c.in_ok-name_of.ensures)

pub returns : goal.returns
returns c =
    let none : length c.loop-rest.rest.now ≡ 0 = grind (arith, common_steps) in
    names-end c.loop-rest.names.items (words_behind c.loop-rest.rest.now) _ c.loop-rest.invariant
    (none-behind c.loop-rest.rest.now none)
