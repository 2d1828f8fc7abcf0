-- What is left of a list of numbers where some elements alone are kept, and are numbered anew.
use Rattle.std.specs.Prelude.{ℕ, Option, None, List, filter_map, slice_index_or}

-- the new numbers, in place of the old ones, where there is one
abbrev pub numbers_left : List (Option ℕ) → List ℕ → List ℕ
numbers_left anew = filter_map (λ x. slice_index_or anew x None)
