-- The elements that a search over a table has reached: those from which fewer steps than some number lead to
-- the source.
use Rattle.std.specs.Prelude.{◌≡◌, ℕ, ◌+◌, ◌/◌, ◌<◌, ◌↔◌, List, length}
use Rattle.bit_tables.specs.Sets.{Has}
use Rattle.list_search.specs.Rings.{Reaches}
use Rattle.list_search.specs.Walks.{HasCycle}
use Rattle.level_search.specs.declared.tabled.sets.Sets.{Sets}

-- the set has the elements from which fewer than n steps lead to s
abbrev pub IsBall : List (List ℕ) → ℕ → ℕ → List ℕ → Type 0
IsBall rows s n set = (x : ℕ) → Has set x ↔ ((m : ℕ) × (m < n) × Reaches rows s m x)

-- x is reached, and not near
pub record IsInLayer (n : ℕ) (sets : Sets) (x : ℕ) : Type 0 where
  pub known : x < n
  pub reached : Has sets.reached x
  pub not_near : ¬ Has sets.near x

-- the sets have a bit for each of n elements
pub record FitsSets (n : ℕ) (sets : Sets) : Type 0 where
  pub near : length sets.near ≡ n / 64 + 1
  pub reached : length sets.reached ≡ n / 64 + 1
  pub next : length sets.next ≡ n / 64 + 1

-- the search is at this level, and no cycle is as short
pub record IsAtLevel (rows : List (List ℕ)) (s level : ℕ) (sets : Sets) : Type 0 where
  pub near : IsBall rows s level sets.near
  pub reached : IsBall rows s (level + 1) sets.reached
  pub long : (n : ℕ) → HasCycle rows s n → level < n
