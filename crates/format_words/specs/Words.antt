-- A line as its words: what stands between its spaces.
use Rattle.std.specs.Prelude.{ℕ, ◌==◌, List, [], ◌∷◌}
use Rattle.std.specs.List.{slice_split}

abbrev pub Word : Type 0
Word = List ℕ

abbrev pub words_of : List ℕ → List Word
words_of text = slice_split (λ b. b == 32) text

-- the words of a rest that begins with the space before the first of them; a rest without a byte has none
abbrev pub words_behind : List ℕ → List Word
words_behind [] = []
words_behind (space ∷ text) = words_of text
