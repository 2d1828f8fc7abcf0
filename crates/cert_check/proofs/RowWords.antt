-- The words of a row's line note what the row does.
use Rattle.std.proofs.Common.{◌≡◌, ℕ, ◌+◌, ◌≤◌, ◌==◌, inl, inr, Bool, true, false, Some, None, List, [], ◌∷◌}
use Rattle.std.proofs.Common.{◌++◌, length, codes, refl, sym, ◌∙◌, ap, subst, arith}
use Rattle.std.specs.Prelude.{All, bytes_eq}
use Rattle.std.specs.Cmp.Lexicographic.{bytes_decides}
use Rattle.std.proofs.lemmas.List.{append-nil}
use Rattle.std.proofs.lemmas.List.Elements.{All-head, All-tail, All-cons, All-nil, All-append, All-weaker}
use Rattle.events.specs.Names.{NameBytes, IsName}
use Rattle.specification.specs.LayerRule.{Row}
use Rattle.specification.specs.Lines.{Line}
use Rattle.specification.specs.CertificateText.{row_line, IsRow, StartsAtSource}
use Rattle.specification.specs.ValidCertificate.{HasSource}
use Rattle.format_words.specs.Words.{Word, words_of, words_behind}
use Rattle.format_words.specs.Reading.{word_at}
use Rattle.format_words.proofs.NamesRead.{word-at-some}
use Rattle.format_words.proofs.Bytes.{lacks-name}
use Rattle.format_words.proofs.Spaced.{words-of-spaced}
use Rattle.certificate_text.proofs.RowLines.{layers_words, row-spaced, plain-layers, row-plain}
use Rattle.cert_check.specs.Noted.{Noted, at_depth, pairs_from}
use Rattle.cert_check.specs.RowWords.{pairs_of, slashes, IsRowWord, SaysRow}
use Rattle.cert_check.proofs.WordPairs.{pairs-slash, pairs-name, slashes-slash, slashes-name}

abbrev AreNames : Row → Type 0
AreNames row = All (λ layer. All IsName layer) row

pub no-slash : (a : NameBytes) → IsName a → (t : Bool) → bytes_eq a (codes "/") ≡ t → t ≡ false
no-slash a h false t = refl
no-slash a h true t =
    let is : a ≡ codes "/" = (bytes_decides a (codes "/")).0 t in
    let lacks : All (λ b. (b == 47) ≡ false) (codes "/") =
    subst (All (λ b. (b == 47) ≡ false)) is (lacks-name 47 a refl h) in
    let bad = All-head (λ b. (b == 47) ≡ false) 47 [] lacks in absurd Prim.cc

name-no : (a : NameBytes) → IsName a → bytes_eq a (codes "/") ≡ false
name-no a h = no-slash a h (bytes_eq a (codes "/")) refl

slash-is : bytes_eq (codes "/") (codes "/") ≡ true
slash-is = (bytes_decides (codes "/") (codes "/")).1 refl

pairs-names : (d : ℕ) (names : List NameBytes) (ws : List Word) → All IsName names
    → pairs_of d (names ++ ws) ≡ at_depth d names ++ pairs_of d ws
pairs-names d [] ws h = refl
pairs-names d (a ∷ names) ws h =
    pairs-name d a (names ++ ws) (name-no a (All-head IsName a names h))
    ∙ ap (λ (l : List Noted). (a, d) ∷ l) (pairs-names d names ws (All-tail IsName a names h))

pairs-row : (d : ℕ) (row : Row) → AreNames row → pairs_of d (layers_words row) ≡ pairs_from d row
pairs-row d [] h = refl
pairs-row d (layer ∷ []) h = ap (pairs_of d) (sym (append-nil layer))
    ∙ pairs-names d layer [] (All-head (λ l. All IsName l) layer [] h)
pairs-row d (layer ∷ next ∷ row) h =
    pairs-names d layer (codes "/" ∷ layers_words (next ∷ row))
    (All-head (λ l. All IsName l) layer (next ∷ row) h)
    ∙ ap (λ (l : List Noted). at_depth d layer ++ l)
    (pairs-slash d (codes "/") (layers_words (next ∷ row)) slash-is
    ∙ pairs-row (d + 1) (next ∷ row) (All-tail (λ l. All IsName l) layer (next ∷ row) h))

slashes-names : (names : List NameBytes) (ws : List Word) → All IsName names
    → slashes (names ++ ws) ≡ slashes ws
slashes-names [] ws h = refl
slashes-names (a ∷ names) ws h =
    slashes-name a (names ++ ws) (name-no a (All-head IsName a names h))
    ∙ slashes-names names ws (All-tail IsName a names h)

slashes-row : (row : Row) → 1 ≤ length row → AreNames row → slashes (layers_words row) + 1 ≡ length row
slashes-row [] some h = absurd (omega arith)
slashes-row (layer ∷ []) some h =
    let e : slashes layer ≡ 0 = ap slashes (sym (append-nil layer))
    ∙ slashes-names layer [] (All-head (λ l. All IsName l) layer [] h) in omega arith
slashes-row (layer ∷ next ∷ row) some h =
    let ws : List Word = layers_words (next ∷ row) in
    let e : slashes (layer ++ codes "/" ∷ ws) ≡ slashes ws + 1 =
    slashes-names layer (codes "/" ∷ ws) (All-head (λ l. All IsName l) layer (next ∷ row) h)
    ∙ slashes-slash (codes "/") ws slash-is in
    let more : slashes ws + 1 ≡ length (next ∷ row) =
    slashes-row (next ∷ row) (omega arith) (All-tail (λ l. All IsName l) layer (next ∷ row) h) in
    omega (arith, e, more)

row-words : (row : Row) → AreNames row → All IsRowWord (layers_words row)
row-words [] h = All-nil IsRowWord
row-words (layer ∷ []) h =
    All-weaker IsName IsRowWord (λ a n. inr n) layer (All-head (λ l. All IsName l) layer [] h)
row-words (layer ∷ next ∷ row) h =
    All-append IsRowWord layer (codes "/" ∷ layers_words (next ∷ row))
    (All-weaker IsName IsRowWord (λ a n. inr n) layer (All-head (λ l. All IsName l) layer (next ∷ row) h))
    (All-cons IsRowWord (codes "/") (layers_words (next ∷ row)) (inl refl)
    (row-words (next ∷ row) (All-tail (λ l. All IsName l) layer (next ∷ row) h)))

row-some : (row : Row) → StartsAtSource row → 1 ≤ length row
row-some [] h = absurd h
row-some (layer ∷ row) h = omega arith

source-first : (layer : List NameBytes) (row : Row) → length layer ≡ 1 → All IsName layer → (a : NameBytes)
    × (more : List Word) × HasSource (layer ∷ row) a × IsName a × (layers_words (layer ∷ row) ≡ a ∷ more)
source-first [] row one h = absurd (omega arith)
source-first (a ∷ []) [] one h = (a, [], refl, All-head IsName a [] h, refl)
source-first (a ∷ []) (next ∷ row) one h =
    (a, codes "/" ∷ layers_words (next ∷ row), refl, All-head IsName a [] h, refl)
source-first (a ∷ b ∷ layer) row one h = absurd (omega arith)

row-source-first : (row : Row) → StartsAtSource row → AreNames row
    → (a : NameBytes) × (more : List Word) × HasSource row a × IsName a × (layers_words row ≡ a ∷ more)
row-source-first [] s h = absurd s
row-source-first (layer ∷ row) s h = source-first layer row s (All-head (λ l. All IsName l) layer row h)

-- the words of the row itself
row-says : (k : ℕ) (row : Row) → IsRow k row → SaysRow k (layers_words row) row
row-says k row h = record {
  row_is = h;
  pairs = pairs-row 0 row h.names;
  layers =
      (let n : slashes (layers_words row) + 1 ≡ length row =
      slashes-row row (row-some row h.source) h.names in let m : length row + 1 ≡ k = h.layers in
      omega (arith, n, m));
  words = row-words row h.names;
  source = row-source-first row h.source h.names;
}

tail-same : (x y : Word) (xs ys : List Word) → x ∷ xs ≡ y ∷ ys → xs ≡ ys
tail-same x y xs ys e = Prim.cc

-- what follows the first word of a row's line says the row
pub line-says : (k : ℕ) (row : Row) (line : Line) (first : Word) (rest : List ℕ) → IsRow k row
    → line ≡ row_line row → words_of line ≡ first ∷ words_behind rest → SaysRow k (words_behind rest) row
line-says k row line first rest h is words =
    let all : words_of line ≡ codes "layers" ∷ layers_words row =
    ap words_of (is ∙ row-spaced row)
    ∙ words-of-spaced (codes "layers") (layers_words row) plain-layers (row-plain row h.names) in
    subst (λ (ws : List Word). SaysRow k ws row) (tail-same (codes "layers") first (layers_words row)
    (words_behind rest) (sym all ∙ words)) (row-says k row h)

-- the first word of a row is its source
pub source-word : (k : ℕ) (row : Row) (ws : List Word) (w : Word) (behind : List Word) → SaysRow k ws row
    → word_at ws ≡ Some (w, behind) → HasSource row w × IsName w
source-word k row ws w behind says first =
    let s = says.source in
    let heads : s.0 ∷ s.1 ≡ w ∷ behind = sym s.4 ∙ word-at-some ws w behind first in
    let same : s.0 ≡ w = Prim.cc in
    subst (λ (a : NameBytes). HasSource row a × IsName a) same (s.2, s.3)

pub source-none : (k : ℕ) (row : Row) (ws : List Word) → SaysRow k ws row → word_at ws ≡ None → ⊥
source-none k row ws says none =
    let s = says.source in
    let bad : word_at (s.0 ∷ s.1) ≡ None = ap word_at (sym s.4) ∙ none in
    absurd Prim.cc
