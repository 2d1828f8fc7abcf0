-- How much all searches for a verdict looked at.
use Rattle.std.specs.Prelude.{◌≡◌, ℕ, ◌+◌, min}
use Rattle.specification.specs.Responses.{Responses}
use Rattle.specification.specs.Verdict.{Verdict, faulty, accepted, refused}
use Rattle.level_search.specs.Conflicts.{AreLooksIn, IsWithinSearches}
use Rattle.level_search.specs.Looks.{AreCycleLooks}

-- the looks of the searches for k and those of the search for the least cycle, together up to the last count
pub record AreAllLooks (v : Responses) (k looked : ℕ) : Type 0 where
  pub for_number : ℕ
  pub for_cycle : ℕ
  pub number : AreLooksIn v k for_number
  pub few : IsWithinSearches v for_number
  pub cycle : AreCycleLooks v k for_cycle
  pub is_sum : looked ≡ min (for_number + for_cycle) 18446744073709551615

-- so many looks were made in these responses for this verdict, which is a refusal
abbrev pub AreLooksFor : Responses → Verdict → ℕ → Type 0
AreLooksFor v (faulty fault) looked = ⊥
AreLooksFor v (accepted order) looked = ⊥
AreLooksFor v (refused k steps) looked = AreAllLooks v k looked
