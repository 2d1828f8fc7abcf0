-- Where a fault stands in a text, whatever its cause, in a format that says which lines are the first ones of
-- a spelling.
use Rattle.std.specs.Prelude.{◌≡◌, ℕ, ◌+◌, List, ◌∷◌, ◌++◌, length}
use Rattle.specification.specs.Lines.{Line, text_of, IsOneLine}

-- the lines before the one of this number are the first ones of some spelling
pub record IsBehindRightLines (Begins : List Line → Type 0) (text : List ℕ) (line : ℕ) : Type 0 where
  pub good : List Line
  pub begins : Begins good
  pub rest : List ℕ
  pub text_is : text ≡ text_of good ++ rest
  pub number : line ≡ length good + 1

-- the line of this number is there, with its LF, after such lines, and reading it takes memory
pub record TakesMemoryAt (Begins : List Line → Type 0) (Takes : List Line → Line → Type 0) (text : List ℕ)
    (line : ℕ) : Type 0 where
  pub good : List Line
  pub begins : Begins good
  pub next : Line
  pub one_line : IsOneLine next
  pub more : List ℕ
  pub text_is : text ≡ text_of good ++ next ++ 10 ∷ more
  pub number : line ≡ length good + 1
  pub takes : Takes good next
