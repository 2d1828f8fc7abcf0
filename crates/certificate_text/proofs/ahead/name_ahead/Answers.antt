use Rattle.std.proofs.Common.{◌+◌, ◌∷◌, ◌++◌, List, ℕ, take, sym, ap, ◌∙◌}
use Rattle.std.proofs.lemmas.List.{take_rest}
use Rattle.format_words.proofs.FirstLine.{parts-at}
use Rattle.certificate_text.proofs.ahead.name_ahead.Goals as goal

pub returns : goal.returns
returns c =
    let text : List ℕ = c.args.text.now in
    let end : ℕ = c.in_ok-end.end in (
      c.is_name.ensures.name.0 c.if-not-is_name.false,
      (parts-at 32 text end (sym c.in_ok-end.ensures)).1
          ∙ ap (λ l. take end text ++ 32 ∷ l) (sym (take_rest text (end + 1))),
    )
