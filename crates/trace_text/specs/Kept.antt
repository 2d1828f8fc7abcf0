-- What is kept of a line whose LF has not come: a line of bounded length that is judged as the line that
-- came.
use Rattle.std.specs.Prelude.{◌≡◌, ℕ, ◌≤◌, ◌⊎◌, false, ◌==◌, All, List, [], ◌∷◌, ◌++◌, length}
use Rattle.specification.specs.Lines.{Line}
use Rattle.specification.specs.TraceText as format
use Rattle.specification.specs.TraceText.{BeginsSpelling, IsFaultyLine}

-- no space stands in it
abbrev pub HasNoSpace : List ℕ → Type 0
HasNoSpace word = All (λ b. (b == 32) ≡ false) word

-- the whole words that are kept, each with the space after it, and the word begun
pub record Kept : Type 0 where
  pub whole : List ℕ
  pub word : List ℕ

-- nothing of a line
abbrev pub EMPTY : Kept
EMPTY = record { whole = []; word = [] }

-- one space, which begins no right line
abbrev pub GIVEN_UP : Kept
GIVEN_UP = record { whole = 32 ∷ []; word = [] }

-- whatever follows: a fault of the kept line is one of the line, after each right lines; and where the kept
-- line is right, it is the line
pub record StandsFor (kept line : Line) : Type 0 where
  pub faults : (lines : List Line) (more : Line) (cause : format.Cause)
      → IsFaultyLine lines (kept ++ more) cause → IsFaultyLine lines (line ++ more) cause
  pub right : (lines : List Line) (more : Line) → BeginsSpelling (lines ++ (kept ++ more) ∷ []) → kept ≡ line
  pub some : 1 ≤ length kept → 1 ≤ length line
  pub none : 1 ≤ length line → 1 ≤ length kept

-- it is empty or ends with a space
abbrev pub EndsWithWord : List ℕ → Type 0
EndsWithWord whole = (whole ≡ []) ⊎ ((front : List ℕ) × (whole ≡ front ++ 32 ∷ []))

-- what is kept stands for this line, and has at most as many bytes as the longest right line and about a word
pub record IsKeptOf (kept : Kept) (line : Line) : Type 0 where
  pub stands : StandsFor (kept.whole ++ kept.word) line
  pub ends : EndsWithWord kept.whole
  pub one_word : HasNoSpace kept.word
  pub few_whole : length kept.whole ≤ 135366
  pub few_word : length kept.word ≤ 32

-- what is kept of the line is kept of it with these bytes more
abbrev pub Keeps : Kept → List ℕ → Kept → Type 0
Keeps old bytes new = (line : Line) → IsKeptOf old line → IsKeptOf new (line ++ bytes)
