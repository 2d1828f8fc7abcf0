-- An entry's line, as its words.
use Rattle.std.proofs.Common.{◌≡◌, ℕ, List, [], ◌∷◌, ◌++◌, refl, sym, ap, ◌∙◌, decimal, codes}
use Rattle.std.specs.List.{All, join_with_byte}
use Rattle.std.proofs.lemmas.List.{append_assoc}
use Rattle.std.proofs.lemmas.List.Splits.{join_with_byte-slice_split}
use Rattle.events.specs.History.{IsWellFormed}
use Rattle.events.specs.Names.{NameBytes, IsName}
use Rattle.events.specs.declared.entry.Entry.{Entry}
use Rattle.events.specs.declared.entry.Body.{Body}
use Rattle.events.specs.declared.entry.Body.TheVariants.{Ins, Del, Read, View, Recv}
use Rattle.specification.specs.Lines.{names_text}
use Rattle.specification.specs.TraceText.{entry_line, body_text, IsEntry}
use Rattle.specification.specs.Versions.{Version}
use Rattle.format_words.specs.Words.{Word, words_of}
use Rattle.format_words.proofs.Bytes.{lacks-literal}
use Rattle.format_words.proofs.LineWords.{LacksSpace, join-names, name-lacks, names-lack, number-lacks}
use Rattle.format_words.proofs.LineWords.{word-then, last-word, names-words}

abbrev pub body_words : Body → List Word
body_words (Ins name at response) = codes "ins" ∷ name ∷ decimal at ∷ codes ":" ∷ response
body_words (Del name response) = codes "del" ∷ name ∷ codes ":" ∷ response
body_words (Read response) = codes "read" ∷ codes ":" ∷ response
body_words (View response) = codes "view" ∷ codes ":" ∷ response
body_words (Recv seen) = codes "recv" ∷ decimal seen.replica ∷ decimal seen.n ∷ []

abbrev pub entry_words : Entry → List Word
entry_words e = decimal e.replica ∷ body_words e.body

place-and-names : (name place names : List ℕ) → name ++ 32 ∷ (place ++ 32 ∷ 58 ∷ names)
    ≡ ((name ++ 32 ∷ place) ++ codes " :") ++ names
place-and-names name place names =
    sym (append_assoc (name ++ 32 ∷ place) (codes " :") names
    ∙ append_assoc name (32 ∷ place) (codes " :" ++ names))

body-join : (r : List ℕ) (b : Body) → join_with_byte 32 (r ∷ body_words b) ≡ r ++ body_text b
body-join r (Ins name at response) =
    ap (λ l. r ++ (codes " ins " ++ (name ++ 32 ∷ (decimal at ++ 32 ∷ l)))) (join-names (codes ":") response)
    ∙ ap (λ l. r ++ (codes " ins " ++ l)) (place-and-names name (decimal at) (names_text response))
body-join r (Del name response) =
    ap (λ l. r ++ (codes " del " ++ (name ++ 32 ∷ l))) (join-names (codes ":") response)
    ∙ ap (λ l. r ++ (codes " del " ++ l)) (sym (append_assoc name (codes " :") (names_text response)))
body-join r (Read response) = ap (λ l. r ++ (codes " read " ++ l)) (join-names (codes ":") response)
body-join r (View response) = ap (λ l. r ++ (codes " view " ++ l)) (join-names (codes ":") response)
body-join r (Recv seen) = refl

-- a line with an entry's words is the entry's line
pub line-by-words : (line : List ℕ) (e : Entry) → words_of line ≡ entry_words e → line ≡ entry_line e
line-by-words line e h = sym (join_with_byte-slice_split 32 line) ∙ ap (join_with_byte 32) h
    ∙ body-join (decimal e.replica) e.body

colon-lacks : LacksSpace (codes ":")
colon-lacks = lacks-literal 32 (codes ":") refl

response-words : (names : List NameBytes) → All IsName names
    → words_of (codes ":" ++ names_text names) ≡ codes ":" ∷ names
response-words names h = names-words (codes ":") names colon-lacks (names-lack names h)

body-words : (r : Word) (b : Body) → LacksSpace r → IsWellFormed b
    → words_of (r ++ body_text b) ≡ r ∷ body_words b
body-words r (Ins name at response) h k =
    ap (λ l. words_of (r ++ (codes " ins " ++ l)))
    (sym (place-and-names name (decimal at) (names_text response)))
    ∙ word-then r (codes "ins " ++ (name ++ 32 ∷ (decimal at ++ 32 ∷ 58 ∷ names_text response))) h
    ∙ ap (λ l. r ∷ codes "ins" ∷ l)
    (word-then name (decimal at ++ 32 ∷ 58 ∷ names_text response) (name-lacks name k.0)
    ∙ ap (λ l. name ∷ l) (word-then (decimal at) (58 ∷ names_text response) (number-lacks at k.1)
    ∙ ap (λ l. decimal at ∷ l) (response-words response k.2)))
body-words r (Del name response) h k =
    ap (λ l. words_of (r ++ (codes " del " ++ l))) (append_assoc name (codes " :") (names_text response))
    ∙ word-then r (codes "del " ++ (name ++ 32 ∷ 58 ∷ names_text response)) h
    ∙ ap (λ l. r ∷ codes "del" ∷ l) (word-then name (58 ∷ names_text response) (name-lacks name k.0)
    ∙ ap (λ l. name ∷ l) (response-words response k.1))
body-words r (Read response) h k =
    word-then r (codes "read " ++ 58 ∷ names_text response) h
    ∙ ap (λ l. r ∷ codes "read" ∷ l) (response-words response k)
body-words r (View response) h k =
    word-then r (codes "view " ++ 58 ∷ names_text response) h
    ∙ ap (λ l. r ∷ codes "view" ∷ l) (response-words response k)
body-words r (Recv seen) h k =
    word-then r (codes "recv " ++ (decimal seen.replica ++ 32 ∷ decimal seen.n)) h
    ∙ ap (λ l. r ∷ codes "recv" ∷ l)
    (word-then (decimal seen.replica) (decimal seen.n) (number-lacks seen.replica k.0)
    ∙ ap (λ l. decimal seen.replica ∷ l) (last-word (decimal seen.n) (number-lacks seen.n k.2)))

-- an entry's line has the entry's words
pub words-of-line : (version : Version) (e : Entry) → IsEntry version e
    → words_of (entry_line e) ≡ entry_words e
words-of-line version e h = body-words (decimal e.replica) e.body (number-lacks e.replica h.0) h.1
