-- What a search of the core has found, and the least conflict.
use Rattle.std.specs.Prelude.{◌≡◌, ℕ, ◌+◌, ◌*◌, ◌<◌, ◌≤◌, Option, Some, None, List, All, length}
use Rattle.specification.specs.Responses.{Responses, AreProper, place_count}
use Rattle.specification.specs.Conflict.{AreLeastSteps, HasConflictNumber, HasNoConflict}
use Rattle.specification.specs.LayerRule.{narrowed}
use Rattle.order_graph.specs.Kept.{names_at}
use Rattle.order_graph.specs.Lists.{lists_of}
use Rattle.level_search.specs.Ways.{IsWay}
use Rattle.level_search.specs.Cores.{IsCoreOf}
use Rattle.level_search.specs.Sources.{MeetsCycles}
use Rattle.level_search.specs.Team.{AreLooksOf, IsLeastLength}
use Rattle.level_search.specs.Thinned.{searched_of, IsThinned}
use Rattle.level_search.specs.declared.conflict.Conflict.{Conflict}
use Rattle.level_search.specs.declared.cycle_core.Core.{Core}
use Rattle.level_search.specs.declared.conflict.Found.{Found}
use Rattle.level_search.specs.declared.conflict.Prepared.{Prepared}

-- so many looks at most as a search from each element would make that makes at most one for each place and
-- for each element
abbrev pub IsWithinSearches : Responses → ℕ → Type 0
IsWithinSearches v looked = looked ≤ length v.elements * (place_count v + length v.elements)

-- just the looks of searches in a core of these responses, of which some may be empty, since others show all
-- that they show; under bounds of no less than `least`
pub record AreLooksIn (v : Responses) (least looked : ℕ) : Type 0 where
  pub numbers : List ℕ
  pub core : IsCoreOf v numbers
  pub part : Responses
  pub is_part : IsThinned (narrowed v (names_at v.elements numbers)) part
  pub looks : AreLooksOf (length part.elements) (lists_of part) least looked

-- in which of its graphs a core is searched
abbrev pub searched_in : Core → Responses
searched_in c = searched_of c.graph c.thinned

-- the core is one of these responses, the way is the core's, and each cycle there leads through one of the sources
pub record IsPrepared (v : Responses) (p : Prepared) : Type 0 where
  pub proper : AreProper v
  pub core : IsCoreOf v p.core.elements.items
  pub part : p.core.graph ≡ narrowed v (names_at v.elements p.core.elements.items)
  pub part_proper : AreProper p.core.graph
  pub thin : IsThinned p.core.graph (searched_in p.core)
  pub way : IsWay (searched_in p.core) p.way
  pub elements_few : length (searched_in p.core).elements ≤ length v.elements
  pub shown_few : length (searched_in p.core).elements ≤ place_count v
  pub places_few : place_count (searched_in p.core) ≤ place_count v
  pub sources_few : length p.sources.items ≤ length (searched_in p.core).elements
  pub known : All (λ x. x < length (searched_in p.core).elements) p.sources.items
  pub met : MeetsCycles (lists_of (searched_in p.core)) (length (searched_in p.core).elements) p.sources.items

-- the same, and the length is that of a shortest cycle there
pub record IsFound (v : Responses) (s : Found) : Type 0 where
  pub proper : AreProper v
  pub core : IsCoreOf v s.core.elements.items
  pub part : s.core.graph ≡ narrowed v (names_at v.elements s.core.elements.items)
  pub part_proper : AreProper s.core.graph
  pub thin : IsThinned s.core.graph (searched_in s.core)
  pub way : IsWay (searched_in s.core) s.way
  pub least : IsLeastLength s.core.graph s.least
  pub looked : AreLooksOf (length (searched_in s.core).elements) (lists_of (searched_in s.core)) s.least s.looked
  pub few : IsWithinSearches v s.looked
  pub elements_few : length (searched_in s.core).elements ≤ length v.elements
  pub places_few : place_count (searched_in s.core) ≤ place_count v
  pub known : All (λ x. x < length (searched_in s.core).elements) s.sources.items
  pub met : MeetsCycles (lists_of (searched_in s.core)) (length (searched_in s.core).elements) s.sources.items

-- the conflict number and the steps of the least cycle, as many; none where there is no conflict
abbrev pub IsLeastConflict : Responses → Option Conflict → Type 0
IsLeastConflict v None = HasNoConflict v
IsLeastConflict v (Some c) = HasConflictNumber v c.k × AreLeastSteps v c.steps × (length c.steps ≡ c.k)
