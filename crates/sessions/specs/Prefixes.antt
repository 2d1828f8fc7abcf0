-- One list is a prefix of another.
use Rattle.std.specs.Prelude.{◌≡◌, List, ◌++◌}

-- the first list has the second as a prefix
abbrev pub HasPrefix : {X : Type 0} → List X → List X → Type 0
HasPrefix {X} xs ys = (rest : List X) × (ys ++ rest ≡ xs)
