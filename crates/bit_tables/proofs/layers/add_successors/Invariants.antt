use Rattle.std.proofs.Common.{◌≡◌, ℕ, ◌≤◌, ◌⊎◌, length}
use Rattle.std.specs.Prelude.{◌↔◌}
use Rattle.bit_tables.specs.Sets.{Has}
use Rattle.bit_tables.specs.Lists.{row_of}
use Rattle.bit_tables.proofs.LayerLemmas.{IsAmongFirst}
use Rattle.bit_tables.proofs.layers.add_successors.Given as goal

abbrev pub invariant-numbers : goal.invariant-numbers
invariant-numbers l = record {
  len : length l.into ≡ length l.fn.into;
  has : (y : ℕ) → l.first ≤ y
      → Has l.into y ↔ (Has l.fn.into y ⊎ ((x : ℕ) × IsAmongFirst l.i l.layer x × Has (row_of l.table x) y));
}
