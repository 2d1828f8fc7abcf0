-- A row has one source, its first word.
use Rattle.std.proofs.Common.{◌∙◌, sym, subst}
use Rattle.std.proofs.lemmas.Slice.Eq.{slice_eq-Decides}
use Rattle.std.proofs.lemmas.Bool.Decides.{Decides-eqb}
use Rattle.specification.specs.ValidCertificate.{HasSource}
use Rattle.cert_check.proofs.RowWords.{source-word, source-none}
use Rattle.cert_check.proofs.RowsJudged.{one_source}
use Rattle.cert_check.proofs.rows.has_source.Goals as goal

pub returns-in-Ok : goal.returns-in-Ok
returns-in-Ok c = λ k row says.
    let source = source-word k row _ _ _ says c.in-Ok.ensures.word in
    let decides = slice_eq-Decides Decides-eqb _ _ _ c.eq.ensures in (
      λ t. subst (HasSource row) (decides.0 t ∙ c.bytes.ensures.value) source.0,
      λ has. decides.1 (one_source row _ _ source.0 has ∙ sym c.bytes.ensures.value),
    )

pub returns-in-Err : goal.returns-in-Err
returns-in-Err c = λ k row says. absurd (source-none k row _ says c.in-Err.ensures.word)
