-- How many steps lead from an element to each other one, at the least.
use Rattle.std.specs.Prelude.{◌≡◌, ℕ, ◌<◌, ◌≤◌, ◌⊎◌, List, length, slice_index}
use Rattle.list_search.specs.Walks.{Walk}

-- d is the least number of steps from s to x, or the limit where it takes as many steps or more, or there is
-- no walk
pub record IsDistanceBelow (rows : List (List ℕ)) (s limit x d : ℕ) : Type 0 where
  pub within : d ≤ limit
  pub walk : d < limit → Walk rows s d x
  pub least : (n : ℕ) → Walk rows s n x → d ≤ n

-- of each element
abbrev pub AreDistances : List (List ℕ) → ℕ → ℕ → List ℕ → Type 0
AreDistances rows s limit depths = (x : ℕ) → x < length depths
    → IsDistanceBelow rows s limit x (slice_index depths x)

-- x stands in the queue from `head` to `tail`
pub record IsAmong (queue : List ℕ) (head tail x : ℕ) : Type 0 where
  pub at : ℕ
  pub from : head ≤ at
  pub to : at < tail
  pub here : slice_index queue at ≡ x

-- each element is among these first ones, or its depth is the limit
abbrev pub AreReached : ℕ → List ℕ → List ℕ → ℕ → Type 0
AreReached limit depths reached count =
    (x : ℕ) → x < length depths → (slice_index depths x ≡ limit) ⊎ IsAmong reached 0 count x
