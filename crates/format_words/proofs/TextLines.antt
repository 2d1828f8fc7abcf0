-- A text falls into its lines in one way.
use Rattle.std.proofs.Common.{◌≡◌, ℕ, ◌==◌, Bool, true, false, List, [], ◌∷◌, ◌++◌, get_or, refl, sym, ap}
use Rattle.std.proofs.Common.{◌∙◌, arith, ◌≤◌, length, length-append}
use Rattle.std.specs.List.{All, slice_split}
use Rattle.std.proofs.lemmas.List.{append_assoc, append-nil, append_cancel_right, same_from_push}
use Rattle.std.proofs.lemmas.List.{get_or_default}
use Rattle.std.proofs.lemmas.List.Splits.{slice_split_none, slice_split_at, length-slice_split}
use Rattle.std.proofs.lemmas.List.Elements.{All-head, All-tail, All-cons, All-nil}
use Rattle.std.proofs.lemmas.Bool.{eqb-true}
use Rattle.events.specs.Names.{NameBytes, IsName}
use Rattle.specification.specs.Lines.{Line, text_of, names_text, IsOneLine}
use Rattle.format_words.proofs.Bytes.{Lacks, lacks-name, lacks-both}

-- what stands between the LFs
abbrev pub lines_of : List ℕ → List Line
lines_of text = slice_split (λ b. b == 10) text

abbrev pub LacksLf : Line → Type 0
LacksLf line = Lacks 10 line

pub not-here : (t : Bool) → (t ≡ true → ⊥) → t ≡ false
not-here true h = absurd (h refl)
not-here false h = refl

pub lacks-lf : (line : Line) → IsOneLine line → LacksLf line
lacks-lf line h k d low =
    not-here (get_or line k d == 10)
    (λ e. h (k, low, get_or_default line k 10 d low ∙ eqb-true (get_or line k d) 10 e))

-- right lines come off the front, one by one
pub lines-then : (lines : List Line) (rest : List ℕ) → All LacksLf lines
    → lines_of (text_of lines ++ rest) ≡ lines ++ lines_of rest
lines-then [] rest h = refl
lines-then (l ∷ lines) rest h =
    ap lines_of (append_assoc (l ++ 10 ∷ []) (text_of lines) rest
    ∙ append_assoc l (10 ∷ []) (text_of lines ++ rest))
    ∙ slice_split_at (λ b. b == 10) l 10 (text_of lines ++ rest) (All-head LacksLf l lines h) refl
    ∙ ap (λ ls. l ∷ ls) (lines-then lines rest (All-tail LacksLf l lines h))

pub line-then : (line : Line) (rest : List ℕ) → LacksLf line
    → lines_of (line ++ 10 ∷ rest) ≡ line ∷ lines_of rest
line-then line rest h = slice_split_at (λ b. b == 10) line 10 rest h refl

-- behind right lines stand a line and more, bytes without LF, or nothing
pub lines-with : (text : List ℕ) (good : List Line) (line : Line) (more : List ℕ) → All LacksLf good
    → IsOneLine line → text ≡ text_of good ++ line ++ 10 ∷ more
    → lines_of text ≡ good ++ line ∷ lines_of more
lines-with text good line more lack one is =
    ap lines_of (is ∙ append_assoc (text_of good) line (10 ∷ more)) ∙ lines-then good (line ++ 10 ∷ more) lack
    ∙ ap (λ ls. good ++ ls) (line-then line more (lacks-lf line one))

pub lines-cut : (text : List ℕ) (good : List Line) (rest : Line) → All LacksLf good → IsOneLine rest
    → text ≡ text_of good ++ rest → lines_of text ≡ good ++ rest ∷ []
lines-cut text good rest lack one is =
    ap lines_of is ∙ lines-then good rest lack
    ∙ ap (λ ls. good ++ ls) (slice_split_none (λ b. b == 10) rest (lacks-lf rest one))

pub lines-whole : (text : List ℕ) (good : List Line) → All LacksLf good → text ≡ text_of good
    → lines_of text ≡ good ++ [] ∷ []
lines-whole text good lack is = ap lines_of (is ∙ sym (append-nil (text_of good))) ∙ lines-then good [] lack

pub names-one : (names : List NameBytes) → All IsName names → LacksLf (names_text names)
names-one [] h = All-nil (λ b. (b == 10) ≡ false)
names-one (a ∷ names) h =
    lacks-both 10 (32 ∷ a) (names_text names) (All-cons (λ b. (b == 10) ≡ false) 32 a refl
    (lacks-name 10 a refl (All-head IsName a names h))) (names-one names (All-tail IsName a names h))

pub all-front : {X : Type 0} (P : X → Type 0) (xs ys : List X) → All P (xs ++ ys) → All P xs
all-front P [] ys h = All-nil P
all-front P (x ∷ xs) ys h =
    All-cons P x xs (All-head P x (xs ++ ys) h) (all-front P xs ys (All-tail P x (xs ++ ys) h))

-- of a list with one element more, what stands before another element stands in the list itself
pub front-of-push : {X : Type 0} (xs good more : List X) (z f : X) → 1 ≤ length more
    → xs ++ z ∷ [] ≡ good ++ f ∷ more → (rest : List X) × (xs ≡ good ++ f ∷ rest)
front-of-push [] [] [] z f some is = absurd (omega arith)
front-of-push [] [] (m ∷ more) z f some is = absurd (cc)
front-of-push [] (g ∷ good) more z f some is =
    absurd (omega (arith, ap length is, length-append good (f ∷ more)))
front-of-push (x ∷ xs) [] more z f some is = (xs, cc)
front-of-push (x ∷ xs) (g ∷ good) more z f some is =
    let head : x ≡ g = cc in
    let tail : xs ++ z ∷ [] ≡ good ++ f ∷ more = cc in
    let p = front-of-push xs good more z f some tail in
    (p.0, ap (λ y. y ∷ xs) head ∙ ap (λ l. g ∷ l) p.1)

pub some-line : (text : List ℕ) → 1 ≤ length (lines_of text)
some-line text = omega (arith, length-slice_split (λ b. b == 10) text)

-- a text of whole lines is one of no others, is cut nowhere, and has each line that right ones lead to
pub same-lines : (text : List ℕ) (lines good : List Line) → All LacksLf lines → All LacksLf good
    → text ≡ text_of lines → text ≡ text_of good → lines ≡ good
same-lines text lines good lack right is also =
    append_cancel_right lines good ([] ∷ [])
    (sym (lines-whole text lines lack is) ∙ lines-whole text good right also)

pub never-cut : (text : List ℕ) (lines good : List Line) (rest : Line) → All LacksLf lines → All LacksLf good
    → IsOneLine rest → 1 ≤ length rest → text ≡ text_of lines → text ≡ text_of good ++ rest → ⊥
never-cut text lines good rest lack right one some is cut =
    let empty : [] ≡ rest =
    (same_from_push lines good [] rest (sym (lines-whole text lines lack is)
    ∙ lines-cut text good rest right one cut)).1 in
    absurd (omega (arith, ap length empty, some))

pub line-stands : (text : List ℕ) (lines good : List Line) (line : Line) (more : List ℕ) → All LacksLf lines
    → All LacksLf good → IsOneLine line → text ≡ text_of lines → text ≡ text_of good ++ line ++ 10 ∷ more
    → (rest : List Line) × (lines ≡ good ++ line ∷ rest)
line-stands text lines good line more lack right one is there =
    front-of-push lines good (lines_of more) [] line (some-line more)
    (sym (lines-whole text lines lack is) ∙ lines-with text good line more right one there)
