-- Responses of which some are left empty.
use Rattle.std.specs.Prelude.{ℕ, if◌then◌else◌, Bool, false, List, [], ◌∷◌, slice_index_or}
use Rattle.specification.specs.Responses.{Responses, Returned}

-- whether a list with this number is marked; none is past the last mark
abbrev pub is_marked : List Bool → ℕ → Bool
is_marked marks l = slice_index_or marks l false

-- nothing of a list that is marked
abbrev pub unless : {X : Type 0} → Bool → List X → List X
unless mark xs = if mark then [] else xs

-- the lists, but those that are marked are empty
abbrev pub emptied_rows : List Bool → List (List ℕ) → List (List ℕ)
emptied_rows marks [] = []
emptied_rows [] (r ∷ rs) = r ∷ emptied_rows [] rs
emptied_rows (m ∷ ms) (r ∷ rs) = unless m r ∷ emptied_rows ms rs

-- the same of what operations returned
abbrev pub emptied_returned : List Bool → List Returned → List Returned
emptied_returned marks [] = []
emptied_returned [] (r ∷ rs) = r ∷ emptied_returned [] rs
emptied_returned (m ∷ ms) (r ∷ rs) = record { by = r.by; names = unless m r.names } ∷ emptied_returned ms rs

-- the same elements and operations, where the responses that are marked are empty
abbrev pub emptied : Responses → List Bool → Responses
emptied v marks = record { elements = v.elements; returned = emptied_returned marks v.returned }
