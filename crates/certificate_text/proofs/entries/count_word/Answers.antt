use Rattle.std.proofs.Common.{◌≢◌, codes, sym, ◌∙◌}
use Rattle.std.proofs.lemmas.Result.{err_from_is_err_and}
use Rattle.std.proofs.lemmas.Slice.Eq.{slice_eq-Decides}
use Rattle.std.proofs.lemmas.Bool.Decides.{Decides-eqb}
use Rattle.std.proofs.lemmas.Bool.{false≢true}
use Rattle.certificate_text.proofs.RowForms.{no-layers, by-slash, by-first, by-later}
use Rattle.certificate_text.proofs.entries.count_word.Goals as goal
use Rattle.certificate_text.proofs.entries.count_word.Goals.{Else-eq}

-- past the first test, the word is no `/`
no-slash : (c : Else-eq) → c.args.word.now ≢ codes "/"
no-slash c e =
    false≢true (sym c.if-eq.false
    ∙ (slice_eq-Decides Decides-eqb _ _ _ c.eq.ensures).1 (e ∙ sym c.as_slice.ensures))

pub returns-then-eq-clause-ok : goal.returns-then-eq-clause-ok
returns-then-eq-clause-ok c =
    let is = (slice_eq-Decides Decides-eqb _ _ _ c.eq.ensures).0 c.if-eq.true ∙ c.as_slice.ensures in
    λ row layer h. by-slash row layer c.args.word.now c.args.form is h

pub returns-in_err-name_of-clause-shape : goal.returns-in_err-name_of-clause-shape
returns-in_err-name_of-clause-shape c =
    let p = err_from_is_err_and c.from_residual.result c.from_residual.ensures.1 in
    rw p.1 (λ layer ws. no-layers layer c.args.word.now ws
    (no-slash (goal.at.returns-in_err-name_of-clause-shape c).Else-eq) c.in_err-name_of.ensures)

pub returns-then-form-eq0-clause-ok : goal.returns-then-form-eq0-clause-ok
returns-then-form-eq0-clause-ok c = λ row layer h.
    by-first row layer c.args.word.now c.in_ok-name_of.field-0 c.args.form
    (no-slash (goal.at.returns-then-form-eq0-clause-ok c).Else-eq)
    c.in_ok-name_of.ensures c.if-form-eq0.true h

pub returns-else-form-eq0-clause-ok : goal.returns-else-form-eq0-clause-ok
returns-else-form-eq0-clause-ok c = λ row layer h.
    by-later row layer c.args.word.now c.in_ok-name_of.field-0 c.args.form
    (no-slash (goal.at.returns-else-form-eq0-clause-ok c).Else-eq)
    c.in_ok-name_of.ensures c.if-form-eq0.false h
