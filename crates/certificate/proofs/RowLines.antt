-- Texts that grow by the lines of rows: one row, and one stretch of rows behind another.
use Rattle.std.proofs.Common.{◌≡◌, ℕ, ◌+◌, ◌*◌, ◌/◌, ◌%◌, ◌<◌, ◌≤◌, List, [], ◌∷◌, ◌++◌, Vec, Global, map}
use Rattle.std.proofs.Common.{take, drop, get_or, length, sym, ap, subst, arith, ◌∙◌}
use Rattle.std.specs.Prelude.{IfOk, Result, slice_index_or}
use Rattle.std.proofs.Math.Seq.{take-add}
use Rattle.std.proofs.lemmas.Grind.{flat_map-append}
use Rattle.std.proofs.lemmas.List.{append_assoc, append-nil, drop_all, drop_more, drop-drop, map-append}
use Rattle.events.specs.Names.{NameBytes}
use Rattle.events.specs.declared.memory.Memory.{Memory}
use Rattle.specification.specs.CertificateText.{row_line}
use Rattle.specification.specs.ExactRows.{IsExactRow}
use Rattle.specification.specs.LayerRule.{Row, row_responses}
use Rattle.specification.specs.Lines.{Line, text_of}
use Rattle.specification.specs.Responses.{Responses}
use Rattle.specification.specs.Versions.{two}
use Rattle.certificate.specs.ByRows.{AppendsRows, joined}
use Rattle.certificate.proofs.ByRows.{rows_appended}
use Rattle.certificate.proofs.ExactRows.{exact_rows_append}

-- no row
pub no_rows : (v : Responses) (k : ℕ) (text : List ℕ) → AppendsRows v k [] text text
no_rows v k text = ([], tt, sym (append-nil text))

-- the rows of some sources behind those of others
pub rows_joined : (v : Responses) (k : ℕ) (first second : List NameBytes) (old text new : List ℕ)
    → AppendsRows v k first old text
    → AppendsRows v k second text new → AppendsRows v k (first ++ second) old new
rows_joined v k first second old text new one other = (
  one.0 ++ other.0,
  exact_rows_append two v k first second one.0 other.0 one.1 other.1,
  other.2 ∙ ap (λ t. t ++ text_of (map row_line other.0)) one.2
      ∙ append_assoc old (text_of (map row_line one.0)) (text_of (map row_line other.0))
      ∙ ap (λ t. old ++ t) (sym (ap text_of (map-append row_line one.0 other.0)
      ∙ flat_map-append (λ (line : Line). line ++ 10 ∷ []) (map row_line one.0) (map row_line other.0))),
)

-- the same of sources that stand one behind the other in a list
pub rows_next : (v : Responses) (k : ℕ) (sources : List NameBytes) (i n : ℕ) (old text new : List ℕ)
    → AppendsRows v k (take i sources) old text
    → AppendsRows v k (take n (drop i sources)) text new → AppendsRows v k (take (i + n) sources) old new
rows_next v k sources i n old text new one other =
    subst (λ l. AppendsRows v k l old new) (sym (take-add i n sources))
    (rows_joined v k (take i sources) (take n (drop i sources)) old text new one other)

-- a text of rows behind another text
pub rows_behind : (v : Responses) (k : ℕ) (sources : List NameBytes) (old lines new : List ℕ)
    → AppendsRows v k sources [] lines → new ≡ old ++ lines
    → AppendsRows v k sources old new
rows_behind v k sources old lines new are is = (are.0, are.1, is ∙ ap (λ t. old ++ t) are.2)

-- the row at a place, and none past the end
pub row_at : (v : Responses) (k : ℕ) (place : ℕ) (old new : List ℕ) (row : Row) → place < length v.elements
    → IsExactRow (row_responses two v (get_or v.elements place [])) k (get_or v.elements place []) row
    → new ≡ old ++ (row_line row ++ 10 ∷ [])
    → AppendsRows v k (take 1 (drop place v.elements)) old new
row_at v k place old new row lt is added =
    let a : NameBytes = get_or v.elements place [] in
    subst (λ l. AppendsRows v k (take 1 l) old new) (sym (drop_more v.elements place [] lt))
    (rows_appended v k [] old old new a row (no_rows v k old) is added)

pub no_row_at : (v : Responses) (k place : ℕ) (text : List ℕ) → length v.elements ≤ place
    → AppendsRows v k (take 1 (drop place v.elements)) text text
no_row_at v k place text le =
    subst (λ l. AppendsRows v k (take 1 l) text text) (sym (drop_all place v.elements le)) (no_rows v k text)

-- the next stretch in a list that begins at a place of another
pub rows_next_from : (v : Responses) (k first i n : ℕ) (old text new : List ℕ)
    → AppendsRows v k (take i (drop first v.elements)) old text
    → AppendsRows v k (take n (drop (first + i) v.elements)) text new
    → AppendsRows v k (take (i + n) (drop first v.elements)) old new
rows_next_from v k first i n old text new one other =
    rows_next v k (drop first v.elements) i n old text new one
    (subst (λ l. AppendsRows v k (take n l) text new) (sym (drop-drop i first v.elements)) other)

-- one text more
pub joined_push : (texts : List (Vec ℕ Global)) (text : Vec ℕ Global)
    → joined (texts ++ text ∷ []) ≡ joined texts ++ text.items
joined_push texts text =
    flat_map-append (λ (t : Vec ℕ Global). t.items) texts (text ∷ [])
    ∙ ap (λ l. joined texts ++ l) (append-nil text.items)

-- one text alone
pub joined_one : (texts new : List (Vec ℕ Global)) (text : Vec ℕ Global) → texts ≡ []
    → new ≡ texts ++ text ∷ [] → joined new ≡ text.items
joined_one texts new text none is =
    ap joined is ∙ joined_push texts text ∙ ap (λ (l : List (Vec ℕ Global)). joined l ++ text.items) none

-- a text of rows that was added behind others
pub text_added : (v : Responses) (k : ℕ) (sources : List NameBytes) (texts new : List (Vec ℕ Global))
    (text : Vec ℕ Global) → AppendsRows v k sources [] text.items
    → new ≡ texts ++ text ∷ [] → AppendsRows v k sources (joined texts) (joined new)
text_added v k sources texts new text are is =
    rows_behind v k sources (joined texts) text.items (joined new) are (ap joined is ∙ joined_push texts text)

-- the slot of a piece, and the piece that stands in a slot
abbrev pub slot_of : ℕ → ℕ
slot_of piece = piece % 4 * 128 + piece / 4

abbrev pub piece_in : ℕ → ℕ
piece_in slot = slot % 128 * 4 + slot / 128

pub slot_within : (piece : ℕ) → piece < 512 → slot_of piece < 512
slot_within piece lt = omega (arith, lt)

pub piece_there : (piece : ℕ) → piece < 512 → piece_in (slot_of piece) ≡ piece
piece_there piece lt = omega (arith, lt)

-- the pieces from this one on stand in their slots
abbrev pub AreLeft : Responses → ℕ → ℕ → ℕ → List (Result (Vec ℕ Global) Memory) → Type 0
AreLeft v k first piece made =
    (i : ℕ) (d : Result (Vec ℕ Global) Memory) → i < length made → piece ≤ piece_in i
    → IfOk (slice_index_or made i d)
    (λ lines. AppendsRows v k (take 10 (drop (first + 10 * piece_in i) v.elements)) [] lines.items)

-- the piece in its slot
pub piece_left : (v : Responses) (k first piece : ℕ) (made : List (Result (Vec ℕ Global) Memory))
    (d : Result (Vec ℕ Global) Memory) → AreLeft v k first piece made → length made ≡ 512 → piece < 512
    → IfOk (slice_index_or made (slot_of piece) d)
    (λ lines. AppendsRows v k (take 10 (drop (first + 10 * piece) v.elements)) [] lines.items)
piece_left v k first piece made d left len lt =
    let there : piece_in (slot_of piece) ≡ piece = piece_there piece lt in
    subst (λ n. IfOk (slice_index_or made (slot_of piece) d)
    (λ lines. AppendsRows v k (take 10 (drop (first + 10 * n) v.elements)) [] lines.items)) there
    (left (slot_of piece) d (omega (arith, slot_within piece lt, len)) (omega (arith, there)))
