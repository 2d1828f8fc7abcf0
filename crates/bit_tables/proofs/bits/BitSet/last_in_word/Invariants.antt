use Rattle.std.proofs.Common.{◌≡◌, ℕ, ◌<◌, ◌≤◌, ◌/◌, ◌%◌}
use Rattle.bit_tables.specs.Sets.{Has}
use Rattle.bit_tables.proofs.bits.BitSet.last_in_word.Given as goal

abbrev pub invariant-loop-i : goal.invariant-loop-i
invariant-loop-i l = (y : ℕ) → l.i ≤ y % 64 → y < l.n → y / 64 ≡ l.word → Has l.self y → Has l.other y
