use Rattle.std.proofs.Common.{◌+◌, ◌∷◌, ◌++◌, List, ℕ, take, sym, ap, ◌∙◌}
use Rattle.std.proofs.lemmas.List.{take_rest}
use Rattle.format_words.proofs.FirstLine.{line-before, line-parts, no-line}
use Rattle.format_words.proofs.lines.split_line.Goals as goal

pub returns-in_err-end : goal.returns-in_err-end
returns-in_err-end c = rw c.from_residual.ensures (no-line c.args.text.now c.in_err-end.ensures)

pub returns : goal.returns
returns c =
    let text : List ℕ = c.args.text.now in
    let end : ℕ = c.in_ok-end.end in
    let first = c.in_ok-end.ensures in (
      line-before text end first.0,
      line-parts text end first.0.high first.1
          ∙ ap (λ l. take end text ++ 10 ∷ l) (sym (take_rest text (end + 1))),
    )
