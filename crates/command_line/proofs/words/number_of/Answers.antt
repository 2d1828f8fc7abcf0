use Rattle.std.proofs.Common.{List, ℕ, ◌<◌, ◌≤◌, get_or, length, arith, ◌∙◌, subst}
use Rattle.format_words.proofs.Numbers.{parsed-number}
use Rattle.command_line.proofs.Positives.{IsNoPositive, empty-word, low-word, high-word, read-positive}
use Rattle.command_line.proofs.words.number_of.Goals as goal

pub returns-in_default : goal.returns-in_default
returns-in_default c =
    subst IsNoPositive c.as_bytes.ensures.value (empty-word c.as_bytes.result.now (omega arith))

pub returns-in_default-2 : goal.returns-in_default-2
returns-in_default-2 c =
    subst IsNoPositive c.as_bytes.ensures.value (low-word c.as_bytes.result.now (omega arith))

pub returns-in_default-3 : goal.returns-in_default-3
returns-in_default-3 c =
    subst IsNoPositive c.as_bytes.ensures.value (high-word c.as_bytes.result.now (omega arith))

pub returns : goal.returns
returns c =
    let word : List ℕ = c.args.word.now in
    let same = c.as_bytes.ensures.value in
    let some : 0 < length word = subst (λ l. 0 < length l) same (omega arith) in
    let low : 48 < get_or word 0 0 = subst (λ l. 48 < get_or l 0 0) same (omega arith) in
    let high : get_or word 0 0 ≤ 57 = subst (λ l. get_or l 0 0 ≤ 57) same (omega arith) in
    read-positive word _ (c.ok.ensures.value
    ∙ parsed-number word c.parse.result c.parse.ensures.value.0 some low high) low
