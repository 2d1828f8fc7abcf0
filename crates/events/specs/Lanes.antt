-- What a recording keeps of each replica beside the entries: where its entries and operations stand, and its
-- counts.
use Rattle.std.specs.Prelude.{◌≡◌, ℕ, ◌+◌, ◌<◌, Option, Some, List, ◌∷◌, [], ◌++◌, length, map, filter}
use Rattle.std.specs.Prelude.{option_map, count_by, sum_by, if◌then◌else◌, slice_get, vec_len, vec_capacity}
use Rattle.std.specs.Prelude.{nat_le, nat_lt, Bool, ◌&&◌}
use Rattle.events.specs.History.{IsLegal, response_of, is_insert, is_operation, stream_of}
use Rattle.events.specs.declared.TheConstants.{MOST_ENTRIES, MOST_INSERTS, MOST_NAMES, MOST_PLACES}
use Rattle.events.specs.declared.refusal.Refusal.{Refusal}
use Rattle.events.specs.declared.refusal.Refusal.TheVariants.{EntriesFull, InsertsFull, LongResponse}
use Rattle.events.specs.declared.refusal.Refusal.TheVariants.{PlacesFull}
use Rattle.events.specs.declared.lane.Lane.{Lane}
use Rattle.events.specs.declared.lane.Weight.{Weight}
use Rattle.events.specs.declared.entry.Entry.{Entry}
use Rattle.events.specs.declared.entry.Body.{Body}

-- the body of the entry at a place
abbrev pub body_at : List Entry → ℕ → Option Body
body_at entries i = option_map (λ e. e.body) (slice_get entries i)

-- the places are those of these bodies
abbrev pub ArePlacesOf : List Entry → List ℕ → List Body → Type 0
ArePlacesOf entries places bodies = map (body_at entries) places ≡ map (λ b. Some b) bodies

-- what is kept of a replica that has these bodies
pub record IsLaneOf (entries : List Entry) (bodies : List Body) (lane : Lane) : Type 0 where
  pub stream : ArePlacesOf entries lane.entries.items bodies
  pub operations : ArePlacesOf entries lane.operations.items (filter is_operation bodies)
  pub inserts : lane.inserts ≡ count_by is_insert bodies
  pub places : lane.places ≡ sum_by (λ b. length (response_of b)) bodies

-- one lane for each replica
pub record AreLanesOf (replicas : ℕ) (entries : List Entry) (lanes : List Lane) : Type 0 where
  pub count : length lanes ≡ replicas
  pub each : (r : ℕ) (lane : Lane) → slice_get lanes r ≡ Some lane
      → IsLaneOf entries (stream_of r entries) lane

-- all that a recording keeps true
pub record IsKept (replicas : ℕ) (entries : List Entry) (lanes : List Lane) : Type 0 where
  pub legal : IsLegal (record { replicas = replicas; entries = entries })
  pub lanes_are : AreLanesOf replicas entries lanes

-- what a body counts for
pub record IsWeightOf (b : Body) (w : Weight) : Type 0 where
  pub operates : w.operates ≡ is_operation b
  pub inserts : w.inserts ≡ is_insert b
  pub places : w.places ≡ length (response_of b)

-- both lists have room for one more place
pub record HasRoom (lane : Lane) : Type 0 where
  pub entries : vec_len lane.entries < vec_capacity lane.entries
  pub operations : vec_len lane.operations < vec_capacity lane.operations

-- nothing that is kept has changed
pub record IsSameLane (old new : Lane) : Type 0 where
  pub entries : new.entries.items ≡ old.entries.items
  pub operations : new.operations.items ≡ old.operations.items
  pub inserts : new.inserts ≡ old.inserts
  pub places : new.places ≡ old.places

-- one more entry, at this place and of this weight
pub record AddsEntry (old : Lane) (at : ℕ) (w : Weight) (new : Lane) : Type 0 where
  pub entries : new.entries.items ≡ old.entries.items ++ at ∷ []
  pub operations : new.operations.items
      ≡ (if w.operates then old.operations.items ++ at ∷ [] else old.operations.items)
  pub inserts : new.inserts ≡ (if w.inserts then old.inserts + 1 else old.inserts)
  pub places : new.places ≡ old.places + w.places

-- the tests of the limits, in their order
abbrev pub limit_refusals : ℕ → ℕ → ℕ → Weight → List (Bool × Refusal)
limit_refusals entries inserts places w =
    (nat_le MOST_ENTRIES entries, EntriesFull)
    ∷ (w.inserts && nat_le MOST_INSERTS inserts, InsertsFull)
    ∷ (nat_lt MOST_NAMES w.places, LongResponse)
    ∷ (nat_lt MOST_PLACES (places + w.places), PlacesFull)
    ∷ []
