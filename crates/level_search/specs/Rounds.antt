-- Cycles through one element and another, and distances that tell which elements are on a shortest cycle.
use Rattle.std.specs.Prelude.{◌≡◌, ℕ, ◌-◌, ◌+◌, ◌<◌, ◌≤◌, List, length, slice_index, vec_len}
use Rattle.specification.specs.Responses.{Responses}
use Rattle.order_graph.specs.Turned.{turned}
use Rattle.list_search.specs.Rings.{Reaches}
use Rattle.list_search.specs.Clean.{IsReady}
use Rattle.list_search.specs.Distances.{AreReached}
use Rattle.level_search.specs.declared.cycles.distances.Depths.{Depths}
use Rattle.level_search.specs.declared.cycles.distances.Distances.{Distances}

-- t is on a cycle of k steps through s
abbrev pub IsRoundOf : List (List ℕ) → ℕ → ℕ → ℕ → Type 0
IsRoundOf rows s k t = (m : ℕ) × (n : ℕ) × (m + n ≡ k) × Reaches rows t m s × Reaches rows s n t

-- x is fewer than k steps away, and as many steps lead back as are left
pub record IsBetween (to from : List ℕ) (k x : ℕ) : Type 0 where
  pub away : 0 < slice_index from x
  pub near : slice_index from x < k
  pub back : slice_index to x ≡ k - slice_index from x

-- they are of so many elements below this limit, and each element is at it or among those that were reached
pub record FitsDepths (n limit : ℕ) (d : Depths) : Type 0 where
  pub depths : vec_len d.depths ≡ n
  pub reached : vec_len d.reached ≡ n
  pub count : d.count ≤ n
  pub known : (k : ℕ) → k < d.count → slice_index d.reached.items k < n
  pub noted : AreReached limit d.depths.items d.reached.items d.count

-- they have room for these responses, and the lists in the other direction
pub record FitsDistances (v : Responses) (limit : ℕ) (d : Distances) : Type 0 where
  pub turned_is : d.turned ≡ turned v
  pub scratch : IsReady d.scratch v
  pub to : FitsDepths (length v.elements) limit d.to
  pub from : FitsDepths (length v.elements) limit d.from
