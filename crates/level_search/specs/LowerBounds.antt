-- Levels of elements, and lengths than which no cycle through an element is shorter.
use Rattle.std.specs.Prelude.{◌≡◌, ℕ, ◌+◌, ◌⊎◌, ◌<◌, ◌≤◌, List, slice_index}
use Rattle.order_graph.specs.Lists.{Stands}
use Rattle.list_search.specs.Walks.{HasCycle}
use Rattle.level_search.specs.declared.lower_bounds.Shown.{Shown}
use Rattle.level_search.specs.declared.lower_bounds.levels.Levels.{Levels}

abbrev pub level : Levels → ℕ → ℕ
level g x = slice_index g.levels.items x

abbrev pub rank : Levels → ℕ → ℕ
rank g x = slice_index g.ranks.items x

-- in this list no level is higher by more than one than one before it
abbrev pub RisesByOne : List (List ℕ) → Levels → ℕ → Type 0
RisesByOne rows g l = (p q x y : ℕ) → p < q → Stands rows l p x → Stands rows l q y → level g y ≤ level g x + 1

-- what stands before level 0 in this list is at level 0 too, and of lower rank, or at a level of no less than
-- `entry`
abbrev pub IsEntered : List (List ℕ) → Levels → ℕ → ℕ → Type 0
IsEntered rows g entry l = (p q x y : ℕ) → p < q → Stands rows l p x → Stands rows l q y → level g y ≡ 0
    → ((level g x ≡ 0) × (rank g x < rank g y)) ⊎ (entry ≤ level g x)

-- x may come behind what was shown, and this is what is shown with it
pub record IsBehind (g : Levels) (x : ℕ) (old new : Shown) : Type 0 where
  pub level_is : level g x ≤ old.near
  pub near : (new.near ≤ old.near) × (new.near ≤ level g x + 1)
  pub low : (new.low ≤ old.low) × (0 < level g x → new.low ≤ level g x)
  pub next : (old.next ≤ new.next) × (level g x ≡ 0 → (old.next ≤ rank g x) × (rank g x < new.next))
  pub entry : (new.entry ≤ old.entry) × (level g x ≡ 0 → new.entry ≤ old.low)

-- no cycle through an element is shorter than what is noted for it
abbrev pub AreLowerBounds : List (List ℕ) → List ℕ → Type 0
AreLowerBounds rows bounds = (s n : ℕ) → HasCycle rows s n → slice_index bounds s ≤ n
