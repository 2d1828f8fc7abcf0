-- Where an element stands: its spots in order of lists.
use Rattle.std.specs.Prelude.{ℕ, ◌+◌, ◌==◌, if◌then◌else◌, List, [], ◌∷◌, ◌++◌}
use Rattle.order_graph.specs.declared.spot.Spot.{Spot}

-- the places of x in one list, the first of which has the number `place`
abbrev pub spots_in : ℕ → ℕ → List ℕ → ℕ → List Spot
spots_in list place [] x = []
spots_in list place (y ∷ ys) x =
    (if y == x then record { list = list; place = place } ∷ spots_in list (place + 1) ys x else spots_in list
    (place + 1) ys x)

-- the same over several lists, the first of which has the number `list`
abbrev pub spots_from : ℕ → List (List ℕ) → ℕ → List Spot
spots_from list [] x = []
spots_from list (r ∷ rs) x = spots_in list 0 r x ++ spots_from (list + 1) rs x

abbrev pub spots_of : List (List ℕ) → ℕ → List Spot
spots_of rows x = spots_from 0 rows x
