-- What workers that search for cycles over one bound have found, and teams of them.
use Rattle.std.specs.Prelude.{◌≡◌, ℕ, ◌+◌, ◌<◌, ◌≤◌, ◌⊎◌, max, true, false, List, [], ◌∷◌, length}
use Rattle.std.specs.Prelude.{slice_index, slice_index_or, IsPermutation, All}
use Rattle.std.specs.List.{range_with_len}
use Rattle.shared_bound.specs.Seats.{BoundView, SeatView, least_offer}
use Rattle.shared_bound.specs.declared.TheConstants.{NO_OFFER}
use Rattle.specification.specs.Responses.{Responses}
use Rattle.specification.specs.Search.{IsShortestLength, HasNoCycle}
use Rattle.order_graph.specs.Lists.{lists_of}
use Rattle.level_search.specs.LayerSizes.{counted}
use Rattle.level_search.specs.Looks.{AreCountsAt}
use Rattle.level_search.specs.Sources.{MeetsCycles}
use Rattle.level_search.specs.Ways.{FitsRoom}
use Rattle.list_search.specs.Walks.{HasCycle, NoneShorter}
use Rattle.level_search.specs.declared.workers.worker.Worker.{Worker}

-- some cycle has this length
abbrev pub IsLength : List (List ℕ) → ℕ → Type 0
IsLength rows m = (source : ℕ) × HasCycle rows source m

-- no cycle through the element at this place of the sources is shorter than `low`
abbrev pub IsSearchedAt : List (List ℕ) → List ℕ → ℕ → ℕ → Type 0
IsSearchedAt rows sources low place = NoneShorter rows (slice_index sources place) low

-- each offer is the length of a cycle, and the source at each claimed place was searched from
pub record Honest (rows : List (List ℕ)) (sources : List ℕ) (s : SeatView) : Type 0 where
  pub known : s.low ≤ NO_OFFER
  pub offers : All (IsLength rows) s.offered
  pub claims : All (IsSearchedAt rows sources s.low) s.claimed

-- a count of just the looks of a search from each source that the seat was given, which found just what was offered
abbrev pub AreLooksOfClaims : ℕ → List (List ℕ) → List ℕ → SeatView → ℕ → Type 0
AreLooksOfClaims n rows sources s looked =
    (count : ℕ) × AreCountsAt n rows s.low sources s.claimed s.offered count × (looked ≡ counted count 0)

-- a worker may search this graph from these sources
pub record IsReady (v : Responses) (sources : List ℕ) (w : Worker) : Type 0 where
  pub honest : Honest (lists_of v) sources w.seat
  pub fits : FitsRoom v w.room
  pub looked : AreLooksOfClaims (length v.elements) (lists_of v) sources w.seat w.looked

-- what no worker changes
abbrev pub SameSeat : SeatView → SeatView → Type 0
SameSeat s t = (t.bound ≡ s.bound) × (t.is_first ≡ s.is_first) × (t.out ≡ s.out)

-- a worker that may begin, and what it has done at the end
pub record CanWork (v : Responses) (sources : List ℕ) (w : Worker) : Type 0 where
  pub count : w.seat.bound.sources ≡ length sources
  pub ready : IsReady v sources w

pub record HasWorked (v : Responses) (sources : List ℕ) (old new : Worker) : Type 0 where
  pub number : new.number ≡ old.number
  pub ready : IsReady v sources new
  pub done : new.seat.done ≡ true
  pub same : SameSeat old.seat new.seat

abbrev pub HaveWorked : Responses → List ℕ → List Worker → List Worker → Type 0
HaveWorked v sources old new =
    (length new ≡ length old) × ((k : ℕ) (d : Worker) → k < length old
    → HasWorked v sources (slice_index_or old k d) (slice_index_or new k d))

-- one more than the greatest of the list, or 0
abbrev pub ceiling : List ℕ → ℕ
ceiling [] = 0
ceiling (x ∷ xs) = max (x + 1) (ceiling xs)

-- they are the workers 1, 2, and so on
abbrev pub AreNumbered : List Worker → Type 0
AreNumbered team = (k : ℕ) (d : Worker) → k < length team → (slice_index_or team k d).number ≡ k + 1

-- the k-th of a team of m + 1 workers over a bound: worker k + 1, but the last, which has the first seat, is
-- worker 0
pub record AtPlace (b : BoundView) (v : Responses) (sources : List ℕ) (m k : ℕ) (w : Worker) : Type 0 where
  pub bound : w.seat.bound ≡ b
  pub ready : IsReady v sources w
  pub other : k < m → (w.seat.is_first ≡ false) × (w.number ≡ k + 1)
  pub first : k ≡ m → (w.seat.is_first ≡ true) × (w.seat.out ≡ m) × (w.number ≡ 0)

-- a team of m + 1 workers
abbrev pub IsTeam : BoundView → Responses → List ℕ → ℕ → List Worker → Type 0
IsTeam b v sources m team =
    (length team ≡ m + 1) × ((k : ℕ) (d : Worker) → k < length team
    → AtPlace b v sources m k (slice_index_or team k d))

-- the same, each with its work done
abbrev pub IsDoneTeam : BoundView → Responses → List ℕ → ℕ → List Worker → Type 0
IsDoneTeam b v sources m team = IsTeam b v sources m team × All (λ w. w.seat.done ≡ true) team

-- Just the looks of one search from each of some elements: of n elements at most, through which all cycles
-- lead. No search was under a bound of less than `least`, and that is the least length which one found, or
-- `NO_OFFER` where none found any.
pub record AreLooksOf (n : ℕ) (rows : List (List ℕ)) (least looked : ℕ) : Type 0 where
  pub sources : List ℕ
  pub known : All (λ s. s < n) sources
  pub few : length sources ≤ n
  pub met : MeetsCycles rows n sources
  pub places : List ℕ
  pub once : IsPermutation (range_with_len 0 (length sources)) places
  pub count : ℕ
  pub found : List ℕ
  pub least_is : least ≡ least_offer found
  pub counts : AreCountsAt n rows least sources places found count
  pub looked_is : looked ≡ counted count 0

-- m is the length of a shortest cycle, or `NO_OFFER` where there is none
abbrev pub IsLeastLength : Responses → ℕ → Type 0
IsLeastLength v m = IsShortestLength v m ⊎ ((m ≡ NO_OFFER) × HasNoCycle v)
