-- A line that is there, with its LF, after right lines.
use Rattle.std.proofs.Common.{◌≡◌, ℕ, ◌+◌, List, ◌∷◌, ◌++◌, length, sym, ap, ◌∙◌, append_assoc}
use Rattle.specification.specs.Lines.{Line, text_of, IsOneLine}
use Rattle.format_words.specs.Place.{TakesMemoryAt}

pub record IsThere (Begins : List Line → Type 0) (text : List ℕ) (number : ℕ) (lines : List Line)
    (line : Line) : Type 0 where
  pub begins : Begins lines
  pub one_line : IsOneLine line
  pub more : List ℕ
  pub text_is : text ≡ text_of lines ++ line ++ 10 ∷ more
  pub number_is : number ≡ length lines + 1

-- where the text's rest begins with it
pub is-there : (Begins : List Line → Type 0) (text : List ℕ) (number : ℕ) (lines : List Line)
    (line rest behind : List ℕ) →
    text ≡ text_of lines ++ rest → rest ≡ line ++ 10 ∷ behind → IsOneLine line → number ≡ length lines + 1
    → Begins lines → IsThere Begins text number lines line
is-there Begins text number lines line rest behind whole cut one is begins =
    record {
      begins = begins;
      one_line = one;
      more = behind;
      text_is =
          whole ∙ ap (λ l. text_of lines ++ l) cut ∙ sym (append_assoc (text_of lines) line (10 ∷ behind));
      number_is = is;
    }

pub takes-at : (Begins : List Line → Type 0) (Takes : List Line → Line → Type 0) (text : List ℕ)
    (number : ℕ) (lines : List Line) (line : Line) → IsThere Begins text number lines line
    → Takes lines line → TakesMemoryAt Begins Takes text number
takes-at Begins Takes text number lines line at takes =
    record {
      good = lines;
      begins = at.begins;
      next = line;
      one_line = at.one_line;
      more = at.more;
      text_is = at.text_is;
      number = at.number_is;
      takes = takes;
    }
