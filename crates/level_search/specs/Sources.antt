-- Elements to search from, and an order of the other elements that each list follows.
use Rattle.std.specs.Prelude.{◌≡◌, ◌≢◌, ℕ, ◌<◌, List, slice_index, Contains}
use Rattle.order_graph.specs.Lists.{Stands}
use Rattle.list_search.specs.Walks.{HasCycle}
use Rattle.level_search.specs.Rounds.{IsRoundOf}

-- the rank of an element that is left out of the order
abbrev pub UNRANKED : ℕ
UNRANKED = 4294967295

-- x is in the order
abbrev pub IsRanked : List ℕ → ℕ → Type 0
IsRanked ranks x = slice_index ranks x ≢ UNRANKED

-- some elements have no rank any more, and the others the one that they had
abbrev pub AreFewerRanks : List ℕ → List ℕ → Type 0
AreFewerRanks old new = (x : ℕ) → IsRanked new x → slice_index new x ≡ slice_index old x

-- along a list the ranked elements rise
pub record Rises (rows : List (List ℕ)) (ranks : List ℕ) (l : ℕ) : Type 0 where
  pub rises : (p q x y : ℕ) → p < q → Stands rows l p x → Stands rows l q y → IsRanked ranks x
      → IsRanked ranks y → slice_index ranks x < slice_index ranks y

-- each cycle leads through one of these
abbrev pub MeetsCycles : List (List ℕ) → ℕ → List ℕ → Type 0
MeetsCycles rows elements sources = (s n : ℕ) → s < elements → HasCycle rows s n
    → (t : ℕ) × Contains sources t × HasCycle rows t n × IsRoundOf rows t n s
