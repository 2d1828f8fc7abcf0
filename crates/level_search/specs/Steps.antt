-- The steps of a cycle, between elements by their numbers.
use Rattle.std.specs.Prelude.{◌≡◌, ℕ, Some, List, [], ◌∷◌, ◌++◌, slice_get, slice_index}
use Rattle.events.specs.Operation.{IsLeast}
use Rattle.specification.specs.Responses.{Responses, Shows}
use Rattle.specification.specs.Conflict.{Step}

-- the step from element a to element b, with the least operation that shows a before b
pub record IsStepBetween (v : Responses) (a b : ℕ) (step : Step) : Type 0 where
  pub from : slice_get v.elements a ≡ Some step.from
  pub to : slice_get v.elements b ≡ Some step.to
  pub shown : IsLeast (λ o. Shows v o step.from step.to) step.shown

-- after the one at this place of a ring; after the last the first
abbrev pub next_in : List ℕ → ℕ → ℕ
next_in [] i = 0
next_in (a ∷ rest) i = slice_index (rest ++ a ∷ []) i

-- from each element of the first to the one after it, in order
abbrev pub AreStepsOf : Responses → List ℕ → List Step → Type 0
AreStepsOf v ring steps = (j : ℕ) (step : Step) → slice_get steps j ≡ Some step
    → IsStepBetween v (slice_index ring j) (next_in ring j) step
