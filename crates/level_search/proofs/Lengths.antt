use Rattle.std.proofs.Common.{◌≡◌, ◌≢◌, ℕ, inl, inr, arith}
use Rattle.specification.specs.Responses.{Responses, AreProper}
use Rattle.specification.specs.Conflict.{HasConflictNumber, HasNoConflict}
use Rattle.specification.proofs.ConflictNumber.{conflict_number_is_shortest_cycle}
use Rattle.specification.specs.Search.{IsShortestLength}
use Rattle.level_search.specs.Team.{IsLeastLength}
use Rattle.level_search.proofs.ShortestFew.{shortest-fits}

-- no shortest length is the number that stands for none
pub none : (v : Responses) → AreProper v → (m : ℕ) → IsLeastLength v m → m ≡ 4294967295 → HasNoConflict v
none v proper m (inl shortest) e = let fits = shortest-fits v proper m shortest in absurd (omega arith)
none v proper m (inr without) e = (conflict_number_is_shortest_cycle v proper).1.1 without.1

pub some : (v : Responses) → AreProper v → (m : ℕ) → IsLeastLength v m → m ≢ 4294967295
    → HasConflictNumber v m
some v proper m (inl shortest) other = ((conflict_number_is_shortest_cycle v proper).0 m).1 shortest
some v proper m (inr without) other = absurd (other without.0)

pub shortest : (v : Responses) → (m : ℕ) → IsLeastLength v m → m ≢ 4294967295 → IsShortestLength v m
shortest v m (inl is) other = is
shortest v m (inr without) other = absurd (other without.0)
