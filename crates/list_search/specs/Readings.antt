-- How often a search over the lists has read its bound.
use Rattle.std.specs.Prelude.{◌≡◌, ℕ, ◌<◌, ◌≤◌, ◌⊎◌, Option, Some, None, List}
use Rattle.list_search.specs.Walks.{Walk}

-- wherever steps lead from s, fewer than n lead
abbrev pub NothingLeftAfter : List (List ℕ) → ℕ → ℕ → Type 0
NothingLeftAfter rows s n = (m x : ℕ) → Walk rows s m x → (k : ℕ) × (k < n) × Walk rows s k x

-- A search from s has read its bound n times, and last as `low`: before each layer, up to the one where the
-- cycle closes. Where none is found, up to the one before which it was told to end, or to the last.
abbrev pub AreReadings : List (List ℕ) → ℕ → ℕ → Option ℕ → ℕ → Type 0
AreReadings rows s low (Some m) n = n ≡ m
AreReadings rows s low None n = (low ≤ n) ⊎ NothingLeftAfter rows s n
