use Rattle.std.proofs.Common.{◌≡◌, ◌<◌, ◌∷◌, ◌++◌, [], length, Some, ap, ◌∙◌, sym, arith}
use Rattle.std.proofs.lemmas.Grind.{common_steps}
use Rattle.format_words.proofs.FirstWord.{none-behind}
use Rattle.format_words.proofs.NamesRead.{some-word-at}
use Rattle.certificate_text.specs.Reading.{layers_at, onto_layers}
use Rattle.certificate_text.proofs.RowLines.{last-layer}
use Rattle.certificate_text.proofs.entries.layers.Goals as goal

pub returns-in_err-word : goal.returns-in_err-word
returns-in_err-word c =
    let some : 0 < length c.loop-rest.rest.now = grind (arith, common_steps) in
    absurd (some-word-at c.loop-rest.rest.now some c.in_err-word.ensures.word)

pub returns : goal.returns
returns c =
    let none : length c.loop-rest.rest.now ≡ 0 = grind (arith, common_steps) in
    c.loop-rest.invariant
    ∙ ap (λ ws. onto_layers c.loop-rest.row.items (layers_at c.loop-rest.layer.items ws))
    (none-behind c.loop-rest.rest.now none)
    ∙ ap (onto_layers c.loop-rest.row.items) (last-layer c.loop-rest.layer.items)
    ∙ ap Some
    (sym (c.in_ok-push.ensures.items ∙ ap (λ l. c.loop-rest.row.items ++ l ∷ []) c.from_items.ensures))
