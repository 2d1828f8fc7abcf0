use Rattle.std.proofs.Common.{ℕ, ◌<◌, ◌≤◌, ◌/◌}
use Rattle.bit_tables.specs.Sets.{Has}
use Rattle.bit_tables.proofs.bits.BitSet.last_of_difference.Given as goal

abbrev pub invariant-loop-word : goal.invariant-loop-word
invariant-loop-word l = (y : ℕ) → l.word ≤ y / 64 → y < l.n → Has l.self y → Has l.other y
