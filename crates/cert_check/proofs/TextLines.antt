-- A text of lines, taken apart line by line.
use Rattle.std.proofs.Common.{◌≡◌, ℕ, zero, suc, ◌+◌, ◌<◌, ◌≤◌, Some, List, [], ◌∷◌, ◌++◌, map, drop, length}
use Rattle.std.proofs.Common.{codes, refl, sym, ◌∙◌, ap, subst, arith, append_assoc}
use Rattle.std.specs.Prelude.{All, slice_get}
use Rattle.std.proofs.lemmas.List.Elements.{All-head, All-tail, Contains-append_left, Contains-push}
use Rattle.events.specs.Names.{NameBytes, IsName}
use Rattle.specification.specs.Conflict.{Step}
use Rattle.specification.specs.LayerRule.{Row}
use Rattle.specification.specs.Lines.{Line, text_of, names_text, IsOneLine}
use Rattle.specification.specs.CertificateText.{row_line, step_line, IsRow, IsStep}
use Rattle.format_words.specs.Words.{words_behind}
use Rattle.format_words.proofs.LineWords.{name-lacks, names-lack, names-words}
use Rattle.format_words.proofs.Spaced.{spaced-lacks}
use Rattle.format_words.proofs.TextLines.{LacksLf, lacks-lf}
use Rattle.certificate_text.proofs.RowLines.{layers_words, row-spaced, plain-layers, row-plain}
use Rattle.certificate_text.proofs.FirstSteps.{line-same, step-lacks}
use Rattle.certificate_text.proofs.StepLines.{one-step}

-- the first line of a text
pub first-line : (l : Line) (lines : List Line) → text_of (l ∷ lines) ≡ l ++ 10 ∷ text_of lines
first-line l lines = append_assoc l (10 ∷ []) (text_of lines)

pub line-off : (line : Line) (behind : List ℕ) (l : Line) (lines : List Line) → LacksLf l → IsOneLine line
    → text_of (l ∷ lines) ≡ line ++ 10 ∷ behind → (line ≡ l) × (behind ≡ text_of lines)
line-off line behind l lines lacks one is =
    line-same line l behind (text_of lines) (lacks-lf line one) lacks (sym is ∙ first-line l lines)

row-lacks : (k : ℕ) (r : Row) → IsRow k r → LacksLf (row_line r)
row-lacks k r h =
    subst LacksLf (sym (row-spaced r))
    (spaced-lacks (codes "layers") (layers_words r) plain-layers (row-plain r h.names))

pub some-line : (l : Line) (lines : List Line) → IsOneLine (text_of (l ∷ lines)) → ⊥
some-line l lines one = one (Contains-append_left (l ++ 10 ∷ []) (text_of lines) 10 (Contains-push l 10))

nothing-cut : (line behind : List ℕ) → [] ≡ line ++ 10 ∷ behind → ⊥
nothing-cut [] behind e = absurd Prim.cc
nothing-cut (b ∷ line) behind e = absurd Prim.cc

-- a text that is one line has no rows
pub no-rows : (rows : List Row) (text : List ℕ) → text ≡ text_of (map row_line rows) → IsOneLine text
    → rows ≡ []
no-rows [] text is one = refl
no-rows (row ∷ rows) text is one =
    absurd (some-line (row_line row) (map row_line rows) (subst IsOneLine is one))

-- the first line of the rows from a place on is that of the row there
pub row-at : (k : ℕ) (rows : List Row) (i : ℕ) {text line behind : List ℕ} → All (IsRow k) rows
    → text ≡ text_of (map row_line (drop i rows)) → IsOneLine line → text ≡ line ++ 10 ∷ behind →
    (row : Row) × (slice_get rows i ≡ Some row) × IsRow k row × (line ≡ row_line row)
    × (behind ≡ text_of (map row_line (drop (i + 1) rows)))
row-at k [] zero each is one cut = absurd (nothing-cut _ _ (sym is ∙ cut))
row-at k [] (suc i) each is one cut = absurd (nothing-cut _ _ (sym is ∙ cut))
row-at k (row ∷ rows) zero each is one cut =
    let h = All-head (IsRow k) row rows each in
    let p = line-off _ _ (row_line row) (map row_line rows) (row-lacks k row h) one (sym is ∙ cut) in
    (row, refl, h, p.0, p.1)
row-at k (row ∷ rows) (suc i) each is one cut =
    let next : suc (i + 1) ≡ suc i + 1 = omega arith in
    let p = row-at k rows i (All-tail (IsRow k) row rows each) is one cut in
    (p.0, p.1, p.2, p.3, p.4 ∙ ap (λ (n : ℕ). text_of (map row_line (drop n (row ∷ rows)))) next)

-- steps
-- a text begins with one step's line at most
pub step-same : (s t : Step) (more rest : List ℕ) → IsStep s → IsStep t
    → step_line s ++ 10 ∷ more ≡ step_line t ++ 10 ∷ rest → (s ≡ t) × (more ≡ rest)
step-same s t more rest h k is =
    let p = line-same (step_line s) (step_line t) more rest (step-lacks s h) (step-lacks t k) is in
    (one-step s t h k p.0, p.1)

-- a text is that of one list of steps at most
pub same-steps : (xs ys : List Step) → All IsStep xs → All IsStep ys
    → text_of (map step_line xs) ≡ text_of (map step_line ys) → xs ≡ ys
same-steps [] [] h k is = refl
same-steps [] (y ∷ ys) h k is =
    absurd (nothing-cut (step_line y) (text_of (map step_line ys))
    (is ∙ first-line (step_line y) (map step_line ys)))
same-steps (x ∷ xs) [] h k is =
    absurd (nothing-cut (step_line x) (text_of (map step_line xs)) (sym is
    ∙ first-line (step_line x) (map step_line xs)))
same-steps (x ∷ xs) (y ∷ ys) h k is =
    let p = step-same x y (text_of (map step_line xs)) (text_of (map step_line ys)) (All-head IsStep x xs h)
    (All-head IsStep y ys k)
    (sym (first-line (step_line x) (map step_line xs)) ∙ is ∙ first-line (step_line y) (map step_line ys)) in
    let rest = same-steps xs ys (All-tail IsStep x xs h) (All-tail IsStep y ys k) p.1 in
    ap (λ z. z ∷ xs) p.0 ∙ ap (λ l. y ∷ l) rest

-- names after spaces
pub names-behind : (order : List NameBytes) → All IsName order → words_behind (names_text order) ≡ order
names-behind [] h = refl
names-behind (a ∷ order) h =
    names-words a order (name-lacks a (All-head IsName a order h))
    (names-lack order (All-tail IsName a order h))

-- what is left from a place on
pub drop-next : {X : Type 0} (xs : List X) (i : ℕ) → i < length xs
    → (x : X) × (slice_get xs i ≡ Some x) × (drop i xs ≡ x ∷ drop (i + 1) xs)
drop-next [] i lt = absurd (omega arith)
drop-next (x ∷ xs) zero lt = (x, refl, refl)
drop-next (x ∷ xs) (suc i) lt =
    let next : suc (i + 1) ≡ suc i + 1 = omega arith in
    let p = drop-next xs i (omega arith) in
    (p.0, p.1, p.2 ∙ ap (λ (n : ℕ). p.0 ∷ drop n (x ∷ xs)) next)

pub drop-none : {X : Type 0} (xs : List X) (i : ℕ) → drop i xs ≡ [] → length xs ≤ i
drop-none [] i e = omega arith
drop-none (x ∷ xs) zero e = absurd Prim.cc
drop-none (x ∷ xs) (suc i) e = let le : length xs ≤ i = drop-none xs i e in omega (arith, le)

pub first-of-drop : {X : Type 0} (xs : List X) (i : ℕ) → slice_get (drop i xs) 0 ≡ slice_get xs i
first-of-drop [] zero = refl
first-of-drop [] (suc i) = refl
first-of-drop (x ∷ xs) zero = refl
first-of-drop (x ∷ xs) (suc i) = first-of-drop xs i

pub drop-all : {X : Type 0} (P : X → Type 0) (xs : List X) (i : ℕ) → All P xs → All P (drop i xs)
drop-all P [] zero h = h
drop-all P [] (suc i) h = h
drop-all P (x ∷ xs) zero h = h
drop-all P (x ∷ xs) (suc i) h = drop-all P xs i (All-tail P x xs h)
