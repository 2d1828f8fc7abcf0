use Rattle.std.proofs.Common.{◌≡◌, ◌≢◌, List, ◌∷◌, codes, ap, sym, ◌∙◌}
use Rattle.std.proofs.lemmas.Slice.Eq.{slice_eq-Decides}
use Rattle.std.proofs.lemmas.Bool.Decides.{Decides-eqb}
use Rattle.std.proofs.lemmas.Bool.{false≢true}
use Rattle.format_words.specs.Words.{Word, words_of, words_behind}
use Rattle.certificate_text.proofs.RowForms.{row-formed, row-unlayered, row-unnamed}
use Rattle.certificate_text.proofs.entries.is_row.Goals as goal

pub returns-then-not-is_layers : goal.returns-then-not-is_layers
returns-then-not-is_layers c =
    let ne : c.first_word.result.0.now ≢ codes "layers" =
    λ e. false≢true (sym c.if-not-is_layers.true
    ∙ (slice_eq-Decides Decides-eqb _ _ _ c.eq-is_layers.ensures).1 (e ∙ sym c.as_slice.ensures)) in
    row-unnamed c.args.k (words_of c.args.line.now) c.first_word.result.0.now
    (words_behind c.first_word.result.1.now) c.first_word.ensures.words ne

-- the words begin with the word of rows
row-words : (words rest : List Word) (word wanted : Word) → words ≡ word ∷ rest → word ≡ wanted
    → wanted ≡ codes "layers" → words ≡ codes "layers" ∷ rest
row-words words rest word wanted is same row = is ∙ ap (λ (w : Word). w ∷ rest) (same ∙ row)

pub returns-in_default : goal.returns-in_default
returns-in_default c =
    let same = (slice_eq-Decides Decides-eqb _ _ _ c.eq-is_layers.ensures).0 c.if-not-is_layers.false in
    row-unlayered c.args.k (words_of c.args.line.now) (words_behind c.first_word.result.1.now)
    (row-words _ _ _ _ c.first_word.ensures.words same c.as_slice.ensures) (c.in_default.ensures.shape)

pub returns : goal.returns
returns c =
    let same = (slice_eq-Decides Decides-eqb _ _ _ c.eq-is_layers.ensures).0 c.if-not-is_layers.false in
    let ok = c.in-Ok.ensures.ok in
    row-formed c.args.k _ _ ok.0 c.in-Ok.form c.is_form.result
    (row-words _ _ _ _ c.first_word.ensures.words same c.as_slice.ensures) ok.1 ok.2
    (sym c.is_form.ensures)
