use Rattle.std.proofs.Common.{◌+◌, ◌∷◌, ◌++◌, List, ℕ, take, drop, decimal, sym, ap, ◌∙◌}
use Rattle.std.proofs.lemmas.List.{take_rest}
use Rattle.format_words.proofs.FirstLine.{parts-at}
use Rattle.format_words.proofs.Numbers.{number_of-is}
use Rattle.certificate_text.proofs.ahead.number_ahead.Goals as goal

pub returns : goal.returns
returns c =
    let text : List ℕ = c.args.text.now in
    let place : ℕ = c.in_ok-place.place in
    let spelled = number_of-is (take place text) c.in_ok-number.number (sym c.in_ok-number.ensures) in
    (parts-at c.args.end text place (sym c.in_ok-place.ensures)).1
    ∙ ap (λ l. l ++ c.args.end ∷ drop (place + 1) text) spelled.0
    ∙ ap (λ l. decimal c.in_ok-number.number ++ c.args.end ∷ l) (sym (take_rest text (place + 1)))
