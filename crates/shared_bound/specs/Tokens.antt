-- What a seat's knowledge and its two numbers show, and what ties them.
use Rattle.std.specs.Prelude.{◌≡◌, ℕ, ◌+◌, ◌<◌, false, if◌then◌else◌}
use Rattle.atomic_table.specs.Seated.{TableId}
use Rattle.shared_bound.specs.declared.TheConstants.{MOST_SEATS}
use Rattle.shared_bound.specs.declared.rule.Knowledge.{Knowledge}
use Rattle.shared_bound.specs.Seats.{SeatView}

abbrev pub shown : TableId → Knowledge → ℕ → ℕ → SeatView
shown table k out shares_left = record {
  bound = record { table = table; sources = k.sources };
  is_first = k.is_first;
  claimed = k.claimed;
  offered = k.offered;
  low = k.low;
  done = k.done;
  out = out;
  shares_left = shares_left;
}

-- the first seat has all parts but those that are out, and each other seat has one
pub record IsTied (k : Knowledge) (out shares_left : ℕ) : Type 0 where
  pub kept : k.parts + out ≡ (if k.is_first then MOST_SEATS else 1)
  pub few : out + shares_left < MOST_SEATS
  pub own : k.is_first ≡ false → out ≡ 0
