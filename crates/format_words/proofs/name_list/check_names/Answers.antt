use Rattle.std.proofs.Common.{◌≡◌, ◌∷◌, ◌++◌, [], length, arith, subst, sym}
use Rattle.std.proofs.lemmas.Grind.{common_steps}
use Rattle.std.proofs.lemmas.Result.{err_from_is_err_and}
use Rattle.format_words.specs.Words.{words_behind}
use Rattle.format_words.specs.Reading.{GivesOne}
use Rattle.format_words.proofs.FirstWord.{none-behind}
use Rattle.format_words.proofs.NamesRead.{some-word-at, names-end, names-more, names-stop}
use Rattle.format_words.proofs.name_list.check_names.Goals as goal

pub returns-in_err-word : goal.returns-in_err-word
returns-in_err-word c =
    absurd (some-word-at c.loop-rest.rest.now (grind (arith, common_steps)) c.in_err-word.ensures.word)

pub returns-in_err-name_of : goal.returns-in_err-name_of
returns-in_err-name_of c =
    let p = err_from_is_err_and c.from_residual-in_err-name_of.result
    c.from_residual-in_err-name_of.ensures.1 in
    rw p.1 (names-stop c.loop-rest.invariant.0 _ _ _ _ c.loop-rest.invariant.1 c.in_ok-word.ensures.word
    c.in_err-name_of.ensures)

pub loop-rest-preserved : goal.loop-rest-preserved
loop-rest-preserved c = (
  c.loop-rest.invariant.0 ++ c.in_ok-name_of.field-0 ∷ [],
  names-more c.loop-rest.invariant.0 _ _ _ _ c.in_ok-name_of.field-0 c.loop-rest.invariant.1
      c.in_ok-word.ensures.word c.in_ok-name_of.ensures,
)

pub returns : goal.returns
returns c =
    let none : length c.loop-rest.rest.now ≡ 0 = grind (arith, common_steps) in
    subst (GivesOne (λ names. Unit {0}))
    (sym (names-end c.loop-rest.invariant.0 (words_behind c.loop-rest.rest.now) _ c.loop-rest.invariant.1
    (none-behind c.loop-rest.rest.now none))) tt
