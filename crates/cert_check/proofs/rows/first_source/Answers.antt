-- The first line is that of the first row, whose first word is its source.
use Rattle.std.proofs.Common.{◌≡◌, ◌∙◌, Some, None, sym, subst}
use Rattle.specification.specs.ValidCertificate.{HasSource}
use Rattle.format_words.proofs.NameWords.{name-is, name_of-name}
use Rattle.cert_check.proofs.TextLines.{no-rows, row-at}
use Rattle.cert_check.proofs.rows.first_source.Goals as goal

pub returns-in_default : goal.returns-in_default
returns-in_default c = λ k layers each text. no-rows layers c.args.rows.now text c.in_default.ensures

pub returns-in_default-source_of : goal.returns-in_default-source_of
returns-in_default-source_of c = λ k layers each text.
    let at = row-at k layers 0 each text c.in-Some.ensures.0 c.in-Some.ensures.1 in
    absurd (c.in_default-source_of.ensures k at.0 (c.words_of_row.ensures k at.0 at.2 at.3))

pub returns-in-Ok : goal.returns-in-Ok
returns-in-Ok c = λ k layers each text.
    let at = row-at k layers 0 each text c.in-Some.ensures.0 c.in-Some.ensures.1 in
    let has = c.in-Some-source_of.ensures k at.0 (c.words_of_row.ensures k at.0 at.2 at.3) in
    let same = name-is c.in-Some-source_of.source.now c.in-Ok.name c.in-Ok.ensures in
    (at.0, at.1, subst (HasSource at.0) same.0 has.0)

pub returns-in-Err : goal.returns-in-Err
returns-in-Err c = λ k layers each text.
    let at = row-at k layers 0 each text c.in-Some.ensures.0 c.in-Some.ensures.1 in
    let has = c.in-Some-source_of.ensures k at.0 (c.words_of_row.ensures k at.0 at.2 at.3) in
    let bad : None ≡ Some c.in-Some-source_of.source.now =
    sym c.in-Err.ensures ∙ name_of-name c.in-Some-source_of.source.now has.1 in
    absurd Prim.cc
