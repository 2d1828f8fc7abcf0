-- The law on the bound.
use Rattle.std.specs.Prelude.{◌≡◌, ℕ, ◌<◌, ◌≤◌, ◌⊎◌, length, All, Contains, map, List, slice_index}
use Rattle.events.specs.Names.{NameBytes}
use Rattle.specification.specs.Responses.{Responses, AreProper}
use Rattle.specification.specs.Conflict.{IsCycle}
use Rattle.specification.specs.Search.{IsCycleLength, IsCycleThrough, IsShortestLength, HasNoCycle}
use Rattle.specification.specs.Search.{NoneShorterThrough}
use Rattle.shared_bound.specs.Bound.{BoundCall, fresh, bound_after_all, bound_states, offers}
use Rattle.shared_bound.specs.declared.TheConstants.{NO_OFFER}

-- some number that m had, or that was offered, or that is at least the last m
abbrev pub WasBound : ℕ → List BoundCall → ℕ → Type 0
WasBound n calls b =
    Contains (map (λ s. s.least) (bound_states n fresh calls)) b ⊎ Contains (offers calls) b
    ⊎ ((bound_after_all n fresh calls).least ≤ b)

-- a cycle through the element with this number is as long as the cycle
pub record IsAsLongThrough (v : Responses) (cycle : List NameBytes) (element : ℕ) : Type 0 where
  pub other : List NameBytes
  pub through : IsCycleThrough v element other
  pub long : length other ≡ length cycle

-- for each cycle, one of the sources has a cycle through it that is as long
abbrev pub MeetEachCycle : Responses → List ℕ → Type 0
MeetEachCycle v sources = (cycle : List NameBytes) → IsCycle v cycle →
    (place : ℕ) × (place < length sources) × IsAsLongThrough v cycle (slice_index sources place)

-- a run of the bound in which each source was searched far enough
pub record CoversAllSources (v : Responses) (sources : List ℕ) (calls : List BoundCall) : Type 0 where
  pub met : MeetEachCycle v sources
  pub offered : All (IsCycleLength v) (offers calls)
  pub given : (bound_after_all (length sources) fresh calls).given ≡ length sources
  pub searched : (place : ℕ) → place < length sources →
      (b : ℕ) × WasBound (length sources) calls b × NoneShorterThrough v (slice_index sources place) b

-- then the last m is the shortest length, or no number was offered and there is no cycle
abbrev pub LeastOfferIsShortest : Type 0
LeastOfferIsShortest = (v : Responses) (sources : List ℕ) (calls : List BoundCall) → AreProper v
    → CoversAllSources v sources calls →
    IsShortestLength v ((bound_after_all (length sources) fresh calls).least)
    ⊎ (((bound_after_all (length sources) fresh calls).least ≡ NO_OFFER) × HasNoCycle v)
