use Rattle.std.proofs.Common.{◌≡◌, ℕ, ◌<◌, ◌⊎◌, length}
use Rattle.std.specs.Prelude.{◌↔◌}
use Rattle.bit_tables.specs.Sets.{Has}
use Rattle.bit_tables.proofs.bits.BitSet.add_below.Given as goal

abbrev pub invariant-loop-x : goal.invariant-loop-x
invariant-loop-x l = record {
  len : length l.self ≡ length l.fn.self;
  has : (y : ℕ) → Has l.self y ↔ (Has l.fn.self y ⊎ (y < l.x));
}
