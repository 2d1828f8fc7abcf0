-- The constants, as numbers. The other definitions cite them by name.
use Rattle.std.specs.Prelude.{◌≡◌}
use Rattle.shared_bound.specs.declared.TheConstants.{MOST_SEATS, NO_OFFER}

-- 64 seats, and the greatest number of 32 bits where nothing was offered
pub record ConstantsAreTheNumbers : Type 0 where
  pub seats : MOST_SEATS ≡ 64
  pub no_offer : NO_OFFER ≡ 4294967295
