use Rattle.std.proofs.Common.{◌≡◌, ℕ, ◌<◌, ◌≤◌, slice_index, vec_len}
use Rattle.std.specs.Prelude.{◌↔◌, Contains}
use Rattle.bit_tables.specs.Rule.{layer_at}
use Rattle.bit_tables.proofs.LayerLemmas.{IsAmongFirst}
use Rattle.bit_tables.proofs.depths.layers_by_depth.Given as goal

abbrev pub invariant-loop-x : goal.invariant-loop-x
invariant-loop-x l = record {
  count : vec_len l.layers ≡ l.count;
  layers : (d x : ℕ) → d < l.count → Contains (layer_at l.layers.items d) x
      ↔ ((l.first ≤ x) × IsAmongFirst l.x-index l.noted x × (slice_index l.depths x ≡ d));
}
