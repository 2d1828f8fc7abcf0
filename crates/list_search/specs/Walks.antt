-- Walks along "stands before", and the shortest that leads back.
use Rattle.std.specs.Prelude.{◌≡◌, ℕ, zero, suc, ◌<◌, ◌≤◌, Option, Some, None, List}
use Rattle.list_search.specs.Graph.{Before}

-- a walk of this many steps from s to x
abbrev pub Walk : List (List ℕ) → ℕ → ℕ → ℕ → Type 0
Walk rows s zero x = x ≡ s
Walk rows s (suc n) x = (c : ℕ) × Walk rows s n c × Before rows c x

-- a cycle through s has this length
abbrev pub HasCycle : List (List ℕ) → ℕ → ℕ → Type 0
HasCycle rows s m = (1 ≤ m) × Walk rows s m s

-- the shortest cycle through s has length m
pub record IsShortest (rows : List (List ℕ)) (s m : ℕ) : Type 0 where
  pub cycle : HasCycle rows s m
  pub shortest : (n : ℕ) → HasCycle rows s n → m ≤ n

-- no cycle through s is shorter than the bound
abbrev pub NoneShorter : List (List ℕ) → ℕ → ℕ → Type 0
NoneShorter rows s bound = (n : ℕ) → HasCycle rows s n → bound ≤ n

-- what a search under this bound answers
abbrev pub IsSearchAnswer : List (List ℕ) → ℕ → ℕ → Option ℕ → Type 0
IsSearchAnswer rows s bound (Some m) = IsShortest rows s m × (m < bound)
IsSearchAnswer rows s bound None = NoneShorter rows s bound
