-- The form of a row, counted word by word.
use Rattle.std.proofs.Common.{◌≡◌, ◌≢◌, ℕ, ◌+◌, Bool, true, false, List, [], ◌∷◌, ◌++◌}
use Rattle.std.proofs.Common.{length, codes, Option, Some, None, option_map, refl, sym, ap, ◌∙◌, arith}
use Rattle.std.proofs.Common.{append_assoc, length-append}
use Rattle.std.specs.Str.{bytes_eq}
use Rattle.std.specs.Prelude.{slice_index_or}
use Rattle.std.proofs.lemmas.Slice.Eq.{bytes_eq-Decides}
use Rattle.events.specs.Names.{NameBytes}
use Rattle.specification.specs.LayerRule.{Row}
use Rattle.format_words.specs.Words.{Word}
use Rattle.format_words.specs.Reading.{after_word, name_of, GivesOne}
use Rattle.certificate_text.specs.Outlines.{Tells}
use Rattle.certificate_text.specs.Reading.{layers_at, onto_layers, has_form, row_at, form_of, is_form}
use Rattle.certificate_text.specs.Reading.{HasForm, GoesOn}
use Rattle.format_words.proofs.WordsBack.{word-again}
use Rattle.certificate_text.proofs.RowLines.{last-layer}

bytes-differ : (w v : Word) → w ≢ v → (t : Bool) → bytes_eq w v ≡ t → t ≡ false
bytes-differ w v ne false e = refl
bytes-differ w v ne true e = absurd (ne ((bytes_eq-Decides w v).0 e))

layers-slash : (layer : List NameBytes) (w : Word) (ws : List Word) → bytes_eq w (codes "/") ≡ true
    → layers_at layer (w ∷ ws) ≡ option_map (λ (row : Row). layer ∷ row) (layers_at [] ws)
unfolding layers_at
layers-slash layer w ws e = rw e refl

layers-name : (layer : List NameBytes) (w : Word) (ws : List Word) (name : NameBytes)
    → bytes_eq w (codes "/") ≡ false → name_of w ≡ Some name
    → layers_at layer (w ∷ ws) ≡ layers_at (layer ++ name ∷ []) ws
unfolding layers_at
layers-name layer w ws name e n = rw (e, n) refl

layers-none : (layer : List NameBytes) (w : Word) (ws : List Word) → bytes_eq w (codes "/") ≡ false
    → name_of w ≡ None → layers_at layer (w ∷ ws) ≡ None
unfolding layers_at
layers-none layer w ws e n = rw (e, n) refl

pub no-layers : (layer : List NameBytes) (w : Word) (ws : List Word) → w ≢ codes "/" → name_of w ≡ None
    → layers_at layer (w ∷ ws) ≡ None
no-layers layer w ws ne n =
    layers-none layer w ws (bytes-differ w (codes "/") ne (bytes_eq w (codes "/")) refl) n

onto-slash : (row : Row) (layer : List NameBytes) (o : Option Row)
    → onto_layers row (option_map (λ (more : Row). layer ∷ more) o) ≡ onto_layers (row ++ layer ∷ []) o
onto-slash row layer None = refl
onto-slash row layer (Some more) = ap Some (sym (append_assoc row (layer ∷ []) more))

first-kept : (row : Row) (layer next : List NameBytes)
    → length (slice_index_or ((row ++ layer ∷ []) ++ next ∷ []) 0 [])
    ≡ length (slice_index_or (row ++ layer ∷ []) 0 [])
first-kept [] layer next = refl
first-kept (r ∷ row) layer next = refl

-- a layer ends
pub by-slash : (row : Row) (layer : List NameBytes) (w : Word) (form : ℕ × ℕ) → w ≡ codes "/"
    → HasForm row layer form → GoesOn row layer w (form.0, form.1 + 1)
by-slash row layer w form is h =
    let n : length (row ++ layer ∷ []) ≡ form.1 + 1 = omega (arith, length-append row (layer ∷ []), h.1) in (
      row ++ layer ∷ [],
      [],
      (first-kept row layer [] ∙ h.0, n),
      (λ ws. ap (onto_layers row) (layers-slash layer w ws ((bytes_eq-Decides w (codes "/")).1 is))
          ∙ onto-slash row layer (layers_at [] ws)),
    )

longer : (row : Row) (layer : List NameBytes) (name : NameBytes) (source : ℕ) → length row ≡ 0
    → length (slice_index_or (row ++ layer ∷ []) 0 []) ≡ source
    → length (slice_index_or (row ++ (layer ++ name ∷ []) ∷ []) 0 []) ≡ source + 1
longer [] layer name source none h = omega (arith, length-append layer (name ∷ []), h)
longer (r ∷ row) layer name source none h = absurd (omega arith)

kept : (row : Row) (layer other : List NameBytes) → (length row ≡ 0 → ⊥)
    → length (slice_index_or (row ++ other ∷ []) 0 []) ≡ length (slice_index_or (row ++ layer ∷ []) 0 [])
kept [] layer other some = absurd (some refl)
kept (r ∷ row) layer other some = refl

named : (row : Row) (layer : List NameBytes) (w : Word) (name : NameBytes) → w ≢ codes "/"
    → name_of w ≡ Some name → (ws : List Word) → onto_layers row (layers_at layer (w ∷ ws))
    ≡ onto_layers row (layers_at (layer ++ name ∷ []) ws)
named row layer w name ne n ws =
    ap (onto_layers row)
    (layers-name layer w ws name (bytes-differ w (codes "/") ne (bytes_eq w (codes "/")) refl) n)

-- a name of the first layer
pub by-first : (row : Row) (layer : List NameBytes) (w : Word) (name : NameBytes) (form : ℕ × ℕ)
    → w ≢ codes "/" → name_of w ≡ Some name → form.1 ≡ 0 → HasForm row layer form
    → GoesOn row layer w (form.0 + 1, 0)
by-first row layer w name form ne n zero h = (
  row,
  layer ++ name ∷ [],
  (longer row layer name form.0 (h.1 ∙ zero) h.0, h.1 ∙ zero),
  named row layer w name ne n,
)

-- a name of a later layer
pub by-later : (row : Row) (layer : List NameBytes) (w : Word) (name : NameBytes) (form : ℕ × ℕ)
    → w ≢ codes "/" → name_of w ≡ Some name → (form.1 ≡ 0 → ⊥) → HasForm row layer form
    → GoesOn row layer w form
by-later row layer w name form ne n some h = (
  row,
  layer ++ name ∷ [],
  (kept row layer (layer ++ name ∷ []) (λ z. some (sym h.1 ∙ z)) ∙ h.0, h.1),
  named row layer w name ne n,
)

-- the end
pub whole-form : (row : Row) (layer : List NameBytes) (form : ℕ × ℕ) → HasForm row layer form
    → form_of (row ++ layer ∷ []) ≡ (form.0, form.1 + 1)
whole-form row layer form h =
    let n : length (row ++ layer ∷ []) ≡ form.1 + 1 = omega (arith, length-append row (layer ∷ []), h.1) in
    ap (λ m. (m, length (row ++ layer ∷ []))) h.0 ∙ ap (λ m. (form.0, m)) n

pub last-onto : (row : Row) (layer : List NameBytes) → onto_layers row (layers_at layer [])
    ≡ Some (row ++ layer ∷ [])
last-onto row layer = ap (onto_layers row) (last-layer layer)

pub onto-none : (o : Option Row) → o ≡ onto_layers [] o
onto-none None = refl
onto-none (Some row) = refl

-- whether a line's words are a row
row-there : (k : ℕ) (ws more : List Word) (row : Row) (form : ℕ × ℕ) → ws ≡ codes "layers" ∷ more
    → layers_at [] more ≡ Some row → form_of row ≡ form → is_form k form ≡ true
    → GivesOne (λ row. Unit {0}) (row_at k ws)
unfolding row_at
row-there k ws more row form is e f t =
    let has : has_form k row ≡ true = ap (is_form k) f ∙ t in
    rw (is, word-again (codes "layers") more, e, has) tt

row-unformed : (k : ℕ) (ws more : List Word) (row : Row) (form : ℕ × ℕ) → ws ≡ codes "layers" ∷ more
    → layers_at [] more ≡ Some row → form_of row ≡ form → is_form k form ≡ false → row_at k ws ≡ None
unfolding row_at
row-unformed k ws more row form is e f t =
    let has : has_form k row ≡ false = ap (is_form k) f ∙ t in
    rw (is, word-again (codes "layers") more, e, has) refl

pub row-formed : (k : ℕ) (ws more : List Word) (row : Row) (form : ℕ × ℕ) (t : Bool)
    → ws ≡ codes "layers" ∷ more → layers_at [] more ≡ Some row → form_of row ≡ form → is_form k form ≡ t
    → Tells t (row_at k ws)
row-formed k ws more row form true is e f t = row-there k ws more row form is e f t
row-formed k ws more row form false is e f t = row-unformed k ws more row form is e f t

pub row-unlayered : (k : ℕ) (ws more : List Word) → ws ≡ codes "layers" ∷ more → layers_at [] more ≡ None
    → row_at k ws ≡ None
unfolding row_at
row-unlayered k ws more is e = rw (is, word-again (codes "layers") more, e) refl

pub row-unnamed : (k : ℕ) (ws : List Word) (w : Word) (more : List Word) → ws ≡ w ∷ more → w ≢ codes "layers"
    → row_at k ws ≡ None
unfolding row_at after_word
row-unnamed k ws w more is ne =
    rw (is, bytes-differ w (codes "layers") ne (bytes_eq w (codes "layers")) refl) refl
