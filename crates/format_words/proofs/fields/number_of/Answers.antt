use Rattle.std.proofs.Common.{◌≡◌, length, get_or, arith, sym, ◌∙◌}
use Rattle.std.proofs.lemmas.Grind.{common_steps}
use Rattle.format_words.proofs.Numbers.{empty-word, zero-word, long-word, no-digits, fitting-number}
use Rattle.format_words.proofs.fields.number_of.Goals as goal
use Rattle.format_words.proofs.fields.number_of.Goals.{else-first-eq48-via-then-first-eq48+else-not-is_empty}
use Rattle.format_words.proofs.fields.number_of.Goals.{else-first-eq48-via-else-first-eq48}

pub returns-in_default : goal.returns-in_default
returns-in_default c = sym (empty-word c.args.word.now (omega arith))

pub returns-then-word-gt-MOST_DIGITS : goal.returns-then-word-gt-MOST_DIGITS
returns-then-word-gt-MOST_DIGITS c = sym (long-word c.args.word.now (omega arith))

pub returns-then-not-is_empty : goal.returns-then-not-is_empty
returns-then-not-is_empty c =
    sym (zero-word c.args.word.now (grind (arith, common_steps)) (grind (arith, common_steps)))

pub returns-in-Some : goal.returns-in-Some
returns-in-Some c =
    let lead : get_or c.args.word.now 0 0 ≡ 48 → length c.args.word.now ≡ 1 = elim c.else-first-eq48.branch [
      | else-first-eq48-via-then-first-eq48+else-not-is_empty w ↦ (λ z. grind (arith, common_steps))
      | else-first-eq48-via-else-first-eq48 w ↦ (λ z. absurd (w.if-first-eq48.false z))
    ] in
    c.ok.ensures.value
    ∙ fitting-number c.args.word.now c.in-Some.value c.try_from.result c.try_from.ensures
    c.in-Some.ensures (omega arith) lead

pub returns-in-None : goal.returns-in-None
returns-in-None c = sym (no-digits c.args.word.now c.in-None.ensures)
