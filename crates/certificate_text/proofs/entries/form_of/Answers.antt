use Rattle.std.proofs.Common.{◌≡◌, ◌<◌, ◌∷◌, ◌++◌, [], length, ap, refl, ◌∙◌, arith}
use Rattle.std.proofs.lemmas.Grind.{common_steps}
use Rattle.format_words.proofs.FirstWord.{none-behind}
use Rattle.format_words.proofs.NamesRead.{some-word-at}
use Rattle.certificate_text.specs.Reading.{layers_at, onto_layers}
use Rattle.certificate_text.proofs.RowForms.{onto-none, last-onto, whole-form}
use Rattle.certificate_text.proofs.entries.form_of.Goals as goal

pub loop-rest-init : goal.loop-rest-init
loop-rest-init c = record { small = omega arith; counted = ([], [], (refl, refl), onto-none _) }

pub returns-in_err-word-clause-shape : goal.returns-in_err-word-clause-shape
returns-in_err-word-clause-shape c =
    let some : 0 < length c.loop-rest.rest.now = grind (arith, common_steps) in
    absurd (some-word-at c.loop-rest.rest.now some c.in_err-word.ensures.word)

pub returns-clause-ok : goal.returns-clause-ok
returns-clause-ok c =
    let none : length c.loop-rest.rest.now ≡ 0 = grind (arith, common_steps) in
    let counted = c.loop-rest.invariant.counted in (
      counted.0 ++ counted.1 ∷ [],
      counted.3 ∙ ap (λ ws. onto_layers counted.0 (layers_at counted.1 ws))
          (none-behind c.loop-rest.rest.now none) ∙ last-onto counted.0 counted.1,
      whole-form counted.0 counted.1 c.loop-rest.form counted.2,
    )
