use Rattle.std.proofs.Common.{◌≡◌, ℕ, ◌≤◌, ◌-◌, length}
use Rattle.std.specs.Prelude.{◌↔◌}
use Rattle.bit_tables.specs.Sets.{Has}
use Rattle.bit_tables.specs.Lists.{row_of}
use Rattle.level_search.specs.Balls.{FitsSets, IsInLayer}
use Rattle.level_search.specs.LayerSizes.{counted, layer_size}
use Rattle.level_search.proofs.tabled.sets.Sets.gather.Given as goal

abbrev pub invariant-layer : goal.invariant-layer
invariant-layer l = record {
  within : l.from ≤ length l.graph.elements;
  fits : FitsSets (length l.graph.elements) l.self;
  looked : l.looked ≡ counted (layer_size l.from l.fn.self) l.fn.looked;
  near : l.self.near ≡ l.fn.self.near;
  reached : l.self.reached ≡ l.fn.self.reached;
  next : (y : ℕ) → Has l.self.next y ↔ ((x : ℕ) × IsInLayer l.from l.fn.self x × Has (row_of l.table x) y);
}

abbrev pub decreases-layer : goal.decreases-layer
decreases-layer l = length l.graph.elements - l.from
