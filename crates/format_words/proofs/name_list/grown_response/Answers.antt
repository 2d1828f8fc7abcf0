use Rattle.std.proofs.Common.{◌≡◌, ◌∙◌, length, ap, arith}
use Rattle.std.proofs.lemmas.Grind.{common_steps}
use Rattle.std.proofs.lemmas.Result.{err_from_is_err_and}
use Rattle.format_words.specs.Words.{words_behind}
use Rattle.format_words.specs.Reading.{onto}
use Rattle.format_words.proofs.FirstWord.{none-behind}
use Rattle.format_words.proofs.NamesRead.{names-end}
use Rattle.format_words.proofs.name_list.grown_response.Goals as goal

pub returns-in_err-behind : goal.returns-in_err-behind
returns-in_err-behind c =
    let p = err_from_is_err_and c.from_residual-in_err-behind.result
    c.from_residual-in_err-behind.ensures.1 in
    rw (p.1, p.2) (λ is. c.loop-rest.invariant
    ∙ ap (onto c.loop-rest.names) (c.in_err-behind.ensures.stop is))

pub loop-rest-preserved : goal.loop-rest-preserved
loop-rest-preserved c = c.loop-rest.invariant ∙ c.in_ok-behind.ensures.names

pub returns : goal.returns
returns c =
    let none : length c.loop-rest.rest.now ≡ 0 = grind (arith, common_steps) in
    names-end c.loop-rest.names (words_behind c.loop-rest.rest.now) _ c.loop-rest.invariant
    (none-behind c.loop-rest.rest.now none)
