-- What contracts see of a bound and of its seats.
use Rattle.std.specs.Prelude.{ℕ, min, Bool, false, List, [], ◌∷◌}
use Rattle.atomic_table.specs.Seated.{TableId}
use Rattle.shared_bound.specs.declared.TheConstants.{NO_OFFER}

-- which bound it is, and how many sources it has
pub record BoundView : Type 0 where
  pub table : TableId
  pub sources : ℕ

-- the bound that a seat is of, and whether it is the first; the sources that it claimed and the numbers that
-- it offered, in order; the least number that it knows of; whether it was told that all sources are given
-- out; how many seats it has shared and not taken in, and how many it may still share
pub record SeatView : Type 0 where
  pub bound : BoundView
  pub is_first : Bool
  pub claimed : List ℕ
  pub offered : List ℕ
  pub low : ℕ
  pub done : Bool
  pub out : ℕ
  pub shares_left : ℕ

-- a seat that has done nothing yet
abbrev pub fresh_seat : BoundView → Bool → ℕ → ℕ → SeatView
fresh_seat bound is_first low shares_left =
    record {
      bound = bound;
      is_first = is_first;
      claimed = [];
      offered = [];
      low = low;
      done = false;
      out = 0;
      shares_left = shares_left;
    }

-- the least number of a list, or `NO_OFFER` where it is empty
abbrev pub least_offer : List ℕ → ℕ
least_offer [] = NO_OFFER
least_offer (x ∷ xs) = min x (least_offer xs)
