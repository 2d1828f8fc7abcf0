use Rattle.std.proofs.Common.{◌≡◌, ℕ, ◌<◌, ◌⊎◌, length, get_or}
use Rattle.bit_tables.specs.Sets.{Has}
use Rattle.bit_tables.proofs.few.add_few.Given as goal

abbrev pub invariant-loop-y : goal.invariant-loop-y
invariant-loop-y l = record {
  len : length l.set ≡ length l.fn.set;
  kept : (x : ℕ) → Has l.fn.set x → Has l.set x;
  few : (i : ℕ) → i < l.y-index → Has l.set (get_or l.few i 0);
  only : (x : ℕ) → Has l.set x → Has l.fn.set x ⊎ Has l.all x;
}
