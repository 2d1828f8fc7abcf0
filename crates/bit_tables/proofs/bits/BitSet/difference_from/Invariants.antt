use Rattle.std.proofs.Common.{◌-◌, ◌≤◌}
use Rattle.bit_tables.specs.Ways.{AreThoseBelow, IsOutside}
use Rattle.bit_tables.proofs.bits.BitSet.difference_from.Given as goal

abbrev pub invariant-numbers : goal.invariant-numbers
invariant-numbers l = record {
  within : l.from ≤ l.n;
  those : AreThoseBelow (IsOutside l.self l.other l.n) l.from l.numbers.items;
}

abbrev pub decreases-numbers : goal.decreases-numbers
decreases-numbers l = l.n - l.from
