use Rattle.std.proofs.Common.{ℕ}
use Rattle.bit_tables.specs.Sets.{Has}
use Rattle.bit_tables.specs.Lists.{row_of}
use Rattle.bit_tables.proofs.LayerLemmas.{IsAmongFirst}
use Rattle.bit_tables.proofs.layers.is_after.Given as goal

abbrev pub invariant-loop-x : goal.invariant-loop-x
invariant-loop-x l = (x : ℕ) → IsAmongFirst l.x-index l.layer x → Has (row_of l.table x) l.number → ⊥
