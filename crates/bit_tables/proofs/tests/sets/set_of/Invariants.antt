use Rattle.std.proofs.Common.{◌≡◌, length}
use Rattle.bit_tables.proofs.tests.sets.set_of.Given as goal

abbrev pub invariant-loop-n : goal.invariant-loop-n
invariant-loop-n l = length l.set ≡ 5
