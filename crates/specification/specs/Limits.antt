-- The limits of a recording, as numbers. The other definitions cite the constants of the crate `events`.
use Rattle.std.specs.Prelude.{◌≡◌}
use Rattle.events.specs.declared.TheConstants.{MOST_REPLICAS, MOST_ENTRIES, MOST_INSERTS, MOST_NAMES}
use Rattle.events.specs.declared.TheConstants.{MOST_PLACES, MOST_BYTES}

-- 16 replicas, and of each 16384 entries, 4096 inserts and 262144 names in all responses; 4096 names in a
-- response, 32 bytes in a name
pub record LimitsAreTheNumbers : Type 0 where
  pub replicas : MOST_REPLICAS ≡ 16
  pub entries : MOST_ENTRIES ≡ 16384
  pub inserts : MOST_INSERTS ≡ 4096
  pub names : MOST_NAMES ≡ 4096
  pub places : MOST_PLACES ≡ 262144
  pub bytes : MOST_BYTES ≡ 32
