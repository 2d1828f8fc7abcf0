use Rattle.std.proofs.Common.{◌≡◌, ℕ, ◌<◌, slice_index, vec_len}
use Rattle.order_graph.specs.Lists.{lists_of}
use Rattle.list_layers.specs.Walked.{IsRestored}
use Rattle.list_layers.proofs.restore.restore_layer.Given as goal

abbrev pub invariant-loop-x : goal.invariant-loop-x
invariant-loop-x l = record {
  count : vec_len l.marks ≡ vec_len l.fn.marks;
  each : (m : ℕ) → IsRestored (lists_of l.graph)
      (λ x. (i : ℕ) × (i < l.x-index) × (slice_index l.layer i ≡ x)) l.fn.marks.items l.marks.items m;
}
