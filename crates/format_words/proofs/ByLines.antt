-- A text read line by line, in a format that says what right lines say.
use Rattle.std.proofs.Common.{◌≡◌, ◌≢◌, ℕ, ◌≤◌, Bool, true, false, List, [], ◌∷◌, ◌++◌, length, refl, sym}
use Rattle.std.proofs.Common.{ap, ◌∙◌, arith, ◌⊎◌, inl, inr}
use Rattle.std.specs.List.{All}
use Rattle.std.specs.Str.{bytes_eq}
use Rattle.std.proofs.lemmas.List.{append-nil}
use Rattle.std.proofs.lemmas.List.Elements.{All-head, All-tail}
use Rattle.std.proofs.lemmas.Bool.{false≢true}
use Rattle.std.proofs.lemmas.Slice.Eq.{bytes_eq-Decides}
use Rattle.specification.specs.Lines.{Line, text_of, IsOneLine}
use Rattle.specification.specs.Versions.{Version, one, two}
use Rattle.format_words.proofs.CutText.{cut-text, line-off, line-on}

-- after right lines, a line is right or a fault, bytes without LF are a fault, and the end may be one
module _ {Known : Type 0} (so_far : Known → List Line) (IsRight : Known → Type 0) (text : List ℕ)
    (Spelled Faulty : Type 0)
    (at-line : (s : Known) (l : Line) (behind : List ℕ) → IsRight s → IsOneLine l
    → text ≡ text_of (so_far s) ++ (l ++ 10 ∷ behind)
    → Faulty ⊎ ((t : Known) × IsRight t × (so_far t ≡ so_far s ++ l ∷ [])))
    (at-cut : (s : Known) (rest : Line) → IsRight s → 1 ≤ length rest → IsOneLine rest
    → text ≡ text_of (so_far s) ++ rest → Faulty)
    (at-end : (s : Known) → IsRight s → text ≡ text_of (so_far s) → Spelled ⊎ Faulty) where
  from-here : (s : Known) (lines : List Line) (rest : List ℕ) → IsRight s → All IsOneLine lines
      → IsOneLine rest → text ≡ text_of (so_far s) ++ (text_of lines ++ rest) → Spelled ⊎ Faulty
  from-here s [] [] right each last is = at-end s right (is ∙ append-nil (text_of (so_far s)))
  from-here s [] (b ∷ rest) right each last is = inr (at-cut s (b ∷ rest) right (omega arith) last is)
  from-here s (l ∷ lines) rest right each last is =
      let off : text ≡ text_of (so_far s) ++ (l ++ 10 ∷ (text_of lines ++ rest)) =
      is ∙ ap (λ t. text_of (so_far s) ++ t) (line-off l lines rest) in
      elim (at-line s l (text_of lines ++ rest) right (All-head IsOneLine l lines each) off) [
        | inl fault ↦ inr fault
        | inr t ↦ from-here t.0 lines rest t.1 (All-tail IsOneLine l lines each) last
            (off ∙ line-on (so_far s) l (text_of lines ++ rest)
            ∙ ap (λ (ls : List Line). text_of ls ++ (text_of lines ++ rest)) (sym t.2))
      ]

  pub by-lines : (s : Known) → IsRight s → so_far s ≡ [] → Spelled ⊎ Faulty
  by-lines s right none = let c = cut-text text in
      from-here s c.lines c.rest right c.each c.last
      (c.whole ∙ ap (λ (ls : List Line). text_of ls ++ (text_of c.lines ++ c.rest)) (sym none))

-- a line is the first of a version, or of none
pub version-of : (first : Version → Line) (l : Line)
    → ((version : Version) → l ≢ first version) ⊎ ((version : Version) × (l ≡ first version))
version-of first l = by (bytes_eq l (first one)) refl (bytes_eq l (first two)) refl
  where
    by : (s : Bool) → bytes_eq l (first one) ≡ s → (t : Bool) → bytes_eq l (first two) ≡ t
        → ((version : Version) → l ≢ first version) ⊎ ((version : Version) × (l ≡ first version))
    by true e t f = inr (one, (bytes_eq-Decides l (first one)).0 e)
    by false e true f = inr (two, (bytes_eq-Decides l (first two)).0 f)
    by false e false f = inl neither
      where
        neither : (version : Version) → l ≢ first version
        neither one same = absurd (false≢true (sym e ∙ (bytes_eq-Decides l (first one)).1 same))
        neither two same = absurd (false≢true (sym f ∙ (bytes_eq-Decides l (first two)).1 same))

-- a version's first line is its own
pub one-version : (first : Version → Line) → bytes_eq (first one) (first two) ≡ false → (v w : Version)
    → first v ≡ first w → v ≡ w
one-version first differ one one is = refl
one-version first differ one two is =
    absurd (false≢true (sym differ ∙ (bytes_eq-Decides (first one) (first two)).1 is))
one-version first differ two one is =
    absurd (false≢true (sym differ ∙ (bytes_eq-Decides (first one) (first two)).1 (sym is)))
one-version first differ two two is = refl
