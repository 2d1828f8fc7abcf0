-- Lines of rows: their words are read as the row, and no other words as one.
use Rattle.std.proofs.Common.{◌≡◌, ℕ, ◌+◌, ◌≤◌, ◌==◌, ◌&&◌, Bool, true, false, cond, List, [], ◌∷◌, ◌++◌}
use Rattle.std.proofs.Common.{length, codes, Option, Some, None, option_map, refl, sym, ap, ◌∙◌, subst, arith}
use Rattle.std.proofs.Common.{append_assoc}
use Rattle.std.specs.List.{All}
use Rattle.std.specs.Str.{bytes_eq}
use Rattle.std.proofs.lemmas.List.{append-nil}
use Rattle.std.proofs.lemmas.List.Concat.{flat_map-append}
use Rattle.std.proofs.lemmas.List.Elements.{All-head, All-tail, All-cons, All-nil, All-append, All-weaker}
use Rattle.std.proofs.lemmas.Option.{same_Some, cond_some}
use Rattle.std.proofs.lemmas.Bool.{eqb-true, eq-eqb}
use Rattle.std.proofs.lemmas.Slice.Eq.{bytes_eq-Decides}
use Rattle.events.specs.Names.{NameBytes, IsName}
use Rattle.specification.specs.LayerRule.{Row}
use Rattle.specification.specs.Lines.{Line, names_text}
use Rattle.specification.specs.CertificateText.{layers_text, row_line, IsRow, StartsAtSource}
use Rattle.format_words.specs.Words.{Word, words_of}
use Rattle.format_words.specs.Reading.{◌>>=◌, after_word, name_of}
use Rattle.format_words.proofs.Bytes.{lacks-name}
use Rattle.format_words.proofs.NameWords.{name-is, name_of-name}
use Rattle.format_words.proofs.WordsBack.{bind-some, after-word-is, word-again}
use Rattle.format_words.proofs.Spaced.{IsPlain, plain-name, plain-literal, spaced, words-of-spaced}
use Rattle.format_words.proofs.Spaced.{spaced-by-words}
use Rattle.certificate_text.specs.Reading.{layers_at, has_form, row_at}

-- a row's words after `layers`
abbrev pub layers_words : Row → List Word
layers_words [] = []
layers_words (layer ∷ []) = layer
layers_words (layer ∷ next ∷ layers) = layer ++ codes "/" ∷ layers_words (next ∷ layers)

pub layers-spaced : (row : Row) → layers_text row ≡ names_text (layers_words row)
layers-spaced [] = refl
layers-spaced (layer ∷ []) = refl
layers-spaced (layer ∷ next ∷ layers) =
    append_assoc (names_text layer) (codes " /") (layers_text (next ∷ layers))
    ∙ ap (λ l. names_text layer ++ (codes " /" ++ l)) (layers-spaced (next ∷ layers))
    ∙ sym (flat_map-append (λ (a : Word). 32 ∷ a) layer (codes "/" ∷ layers_words (next ∷ layers)))

abbrev AreNames : Row → Type 0
AreNames row = All (λ layer. All IsName layer) row

more-words : (layer : List NameBytes) (row : Row) → 1 ≤ length row
    → layers_words (layer ∷ row) ≡ layer ++ codes "/" ∷ layers_words row
more-words layer [] h = absurd (omega arith)
more-words layer (next ∷ row) h = refl

map-some : {A B : Type 0} (f : A → B) (o : Option A) (y : B) → option_map f o ≡ Some y
    → (x : A) × (o ≡ Some x) × (f x ≡ y)
map-some f None y e = absurd (cc)
map-some f (Some x) y e = (x, refl, same_Some (f x) y e)

-- what is read after some names of a layer
abbrev LayersAre : List NameBytes → List Word → Row → Type 0
LayersAre layer ws row = (1 ≤ length row) × AreNames row × (layer ++ ws ≡ layers_words row)

by-slash : (layer : List NameBytes) (w : Word) (ws : List Word) (row : Row)
    → ((l : List NameBytes) (r : Row) → All IsName l → layers_at l ws ≡ Some r → LayersAre l ws r)
    → All IsName layer →
    (t : Bool) → bytes_eq w (codes "/") ≡ t
    → cond t (option_map (λ (more : Row). layer ∷ more) (layers_at [] ws))
    (name_of w >>= λ name. layers_at (layer ++ name ∷ []) ws) ≡ Some row → LayersAre layer (w ∷ ws) row
by-slash layer w ws row behind h true t e =
    let p = map-some (λ (more : Row). layer ∷ more) (layers_at [] ws) row e in
    let rest = behind [] p.0 (All-nil IsName) p.1 in
    let slash : w ≡ codes "/" = (bytes_eq-Decides w (codes "/")).0 t in
    subst (LayersAre layer (w ∷ ws)) p.2 (
      omega arith,
      All-cons (λ l. All IsName l) layer p.0 h rest.1,
      ap (λ v. layer ++ v ∷ ws) slash ∙ ap (λ l. layer ++ codes "/" ∷ l) rest.2
          ∙ sym (more-words layer p.0 rest.0),
    )
by-slash layer w ws row behind h false t e =
    let name = bind-some (name_of w) (λ name. layers_at (layer ++ name ∷ []) ws) row e in
    let is = name-is w name.0 name.1 in
    let rest =
    behind (layer ++ name.0 ∷ []) row
    (All-append IsName layer (name.0 ∷ []) h (All-cons IsName name.0 [] is.1 (All-nil IsName))) name.2 in
    (rest.0, rest.1, ap (λ v. layer ++ v ∷ ws) is.0 ∙ sym (append_assoc layer (name.0 ∷ []) ws) ∙ rest.2)

layers-are : (layer : List NameBytes) (ws : List Word) (row : Row) → All IsName layer
    → layers_at layer ws ≡ Some row → LayersAre layer ws row
unfolding layers_at
layers-are layer [] row h e =
    let same = same_Some (layer ∷ []) row e in
    subst (LayersAre layer []) same (
      omega arith,
      All-cons (λ l. All IsName l) layer [] h (All-nil (λ l. All IsName l)),
      append-nil layer,
    )
layers-are layer (w ∷ ws) row h e =
    by-slash layer w ws row (λ l r. layers-are l ws r) h (bytes_eq w (codes "/")) refl e

not-slash : (a : NameBytes) → IsName a → (t : Bool) → bytes_eq a (codes "/") ≡ t → t ≡ false
not-slash a h false t = refl
not-slash a h true t =
    let is : a ≡ codes "/" = (bytes_eq-Decides a (codes "/")).0 t in
    let lacks : All (λ b. (b == 47) ≡ false) (codes "/") =
    subst (All (λ b. (b == 47) ≡ false)) is (lacks-name 47 a refl h) in
    let bad = All-head (λ b. (b == 47) ≡ false) 47 [] lacks in absurd (cc)

names-first : (layer names : List NameBytes) (ws : List Word) → All IsName names
    → layers_at layer (names ++ ws) ≡ layers_at (layer ++ names) ws
unfolding layers_at
names-first layer [] ws h = ap (λ (l : List NameBytes). layers_at l ws) (sym (append-nil layer))
names-first layer (a ∷ names) ws h =
    let good = All-head IsName a names h in
    rw (not-slash a good (bytes_eq a (codes "/")) refl, name_of-name a good)
    (names-first (layer ++ a ∷ []) names ws (All-tail IsName a names h)
    ∙ ap (λ (l : List NameBytes). layers_at l ws) (append_assoc layer (a ∷ []) names))

slash-then : (layer : List NameBytes) (ws : List Word) (row : Row) → layers_at [] ws ≡ Some row
    → layers_at layer (codes "/" ∷ ws) ≡ Some (layer ∷ row)
unfolding layers_at
slash-then layer ws row e = rw e refl

pub last-layer : (layer : List NameBytes) → layers_at layer [] ≡ Some (layer ∷ [])
unfolding layers_at
last-layer layer = refl

layers-again : (row : Row) → 1 ≤ length row → AreNames row → layers_at [] (layers_words row) ≡ Some row
layers-again [] h k = absurd (omega arith)
layers-again (layer ∷ []) h k =
    ap (layers_at []) (sym (append-nil layer))
    ∙ names-first [] layer [] (All-head (λ l. All IsName l) layer [] k) ∙ last-layer layer
layers-again (layer ∷ next ∷ layers) h k =
    names-first [] layer (codes "/" ∷ layers_words (next ∷ layers))
    (All-head (λ l. All IsName l) layer (next ∷ layers) k)
    ∙ slash-then layer (layers_words (next ∷ layers)) (next ∷ layers)
    (layers-again (next ∷ layers) (omega arith) (All-tail (λ l. All IsName l) layer (next ∷ layers) k))

both : (a b : Bool) → (a && b) ≡ true → (a ≡ true) × (b ≡ true)
both true b h = (refl, h)
both false b h = absurd (cc)

formed : (k : ℕ) (row : Row) → has_form k row ≡ true → StartsAtSource row × (length row + 1 ≡ k)
formed k [] e = absurd (cc)
formed k (layer ∷ layers) e =
    let p = both (length layer == 1) (length (layer ∷ layers) + 1 == k) e in
    (eqb-true (length layer) 1 p.0, eqb-true (length (layer ∷ layers) + 1) k p.1)

form-again : (k : ℕ) (row : Row) → IsRow k row → has_form k row ≡ true
form-again k [] h = absurd h.source
form-again k (layer ∷ layers) h =
    rw (eq-eqb (length layer) 1 h.source) (eq-eqb (length (layer ∷ layers) + 1) k h.layers)

row-are : (k : ℕ) (ws : List Word) (row : Row) → row_at k ws ≡ Some row
    → IsRow k row × (ws ≡ codes "layers" ∷ layers_words row)
unfolding row_at
row-are k ws row e =
    let words =
    bind-some (after_word (codes "layers") ws) (λ words. layers_at [] words >>=
    λ row. cond (has_form k row) (Some row) None) row e in
    let read = bind-some (layers_at [] words.0) (λ row. cond (has_form k row) (Some row) None) row words.2 in
    let made = cond_some (has_form k read.0) read.0 row read.2 in
    let are = layers-are [] words.0 read.0 (All-nil IsName) read.1 in
    let form = formed k read.0 made.0 in
    subst (λ (row : Row). IsRow k row × (ws ≡ codes "layers" ∷ layers_words row)) made.1 (
      record { layers = form.1; source = form.0; names = are.1 },
      after-word-is (codes "layers") ws words.0 words.1 ∙ ap (λ l. codes "layers" ∷ l) are.2,
    )

some-layer : (row : Row) → StartsAtSource row → 1 ≤ length row
some-layer [] h = absurd h
some-layer (layer ∷ layers) h = omega arith

row-words-again : (k : ℕ) (row : Row) → IsRow k row → row_at k (codes "layers" ∷ layers_words row) ≡ Some row
unfolding row_at
row-words-again k row h =
    rw (
      word-again (codes "layers") (layers_words row),
      layers-again row (some-layer row h.source) h.names,
      form-again k row h,
    ) refl

pub row-spaced : (row : Row) → row_line row ≡ spaced (codes "layers") (layers_words row)
row-spaced row = ap (λ l. codes "layers" ++ l) (layers-spaced row)

pub plain-layers : IsPlain (codes "layers")
plain-layers = plain-literal (codes "layers") refl refl

pub row-plain : (row : Row) → AreNames row → All IsPlain (layers_words row)
row-plain [] h = All-nil IsPlain
row-plain (layer ∷ []) h =
    All-weaker IsName IsPlain plain-name layer (All-head (λ l. All IsName l) layer [] h)
row-plain (layer ∷ next ∷ layers) h =
    All-append IsPlain layer (codes "/" ∷ layers_words (next ∷ layers))
    (All-weaker IsName IsPlain plain-name layer (All-head (λ l. All IsName l) layer (next ∷ layers) h))
    (All-cons IsPlain (codes "/") (layers_words (next ∷ layers)) (plain-literal (codes "/") refl refl)
    (row-plain (next ∷ layers) (All-tail (λ l. All IsName l) layer (next ∷ layers) h)))

pub row-spells : (k : ℕ) (line : Line) (row : Row) → row_at k (words_of line) ≡ Some row
    → IsRow k row × (line ≡ row_line row)
row-spells k line row e =
    let p = row-are k (words_of line) row e in
    (p.0, spaced-by-words line (codes "layers") (layers_words row) p.1 ∙ sym (row-spaced row))

pub row-again : (k : ℕ) (row : Row) → IsRow k row → row_at k (words_of (row_line row)) ≡ Some row
row-again k row h =
    ap (λ l. row_at k (words_of l)) (row-spaced row)
    ∙ ap (row_at k) (words-of-spaced (codes "layers") (layers_words row) plain-layers (row-plain row h.names))
    ∙ row-words-again k row h

pub one-row : (k : ℕ) (a b : Row) → IsRow k a → IsRow k b → row_line a ≡ row_line b → a ≡ b
one-row k a b h i is =
    same_Some a b (sym (row-again k a h) ∙ ap (λ l. row_at k (words_of l)) is ∙ row-again k b i)
