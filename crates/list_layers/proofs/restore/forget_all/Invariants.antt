use Rattle.std.proofs.Common.{◌≡◌, ℕ, ◌<◌, vec_len}
use Rattle.std.specs.Prelude.{Contains}
use Rattle.bit_tables.specs.Rule.{layer_at}
use Rattle.list_layers.specs.Progress.{IsSeen}
use Rattle.list_layers.proofs.restore.forget_all.Given as goal

abbrev pub invariant-loop-layer : goal.invariant-loop-layer
invariant-loop-layer l = record {
  places : vec_len l.seen ≡ vec_len l.fn.seen;
  left : (x : ℕ) → IsSeen l.seen.items x
      → IsSeen l.fn.seen.items x × ((j : ℕ) → j < l.layer-index → ¬ Contains (layer_at l.layers j) x);
}
