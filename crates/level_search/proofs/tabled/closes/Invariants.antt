use Rattle.std.proofs.Common.{◌≡◌, ℕ, ◌<◌, ◌≤◌, ◌-◌, length}
use Rattle.bit_tables.specs.Sets.{Has}
use Rattle.bit_tables.specs.Lists.{row_of}
use Rattle.level_search.specs.LayerSizes.{counted, layer_size}
use Rattle.level_search.proofs.tabled.closes.Given as goal

abbrev pub invariant-layer : goal.invariant-layer
invariant-layer l = record {
  within : l.from ≤ length l.graph.elements;
  looked : l.looked ≡ counted (layer_size l.from l.sets) l.fn.looked;
  missed : (y : ℕ) → y < l.from → Has l.sets.reached y → ¬ Has l.sets.near y
      → ¬ Has (row_of l.table y) l.element;
}

abbrev pub decreases-layer : goal.decreases-layer
decreases-layer l = length l.graph.elements - l.from
