use Rattle.std.proofs.Common.{◌≡◌, ℕ, ◌<◌, ◌≤◌, ◌/◌, ◌%◌}
use Rattle.bit_tables.specs.Sets.{Has}
use Rattle.bit_tables.proofs.bits.BitSet.first_of_difference.Given as goal

abbrev pub invariant-words : goal.invariant-words
invariant-words l = record {
  small : l.place < 64;
  within : (y : ℕ) → l.from ≤ y → y / 64 ≡ l.word → l.place ≤ y % 64;
  from : (y : ℕ) → y / 64 ≡ l.word → l.place ≤ y % 64 → l.from ≤ y;
  passed : (y : ℕ) → l.from ≤ y → y / 64 < l.word → y < l.n → Has l.self y → Has l.other y;
}
