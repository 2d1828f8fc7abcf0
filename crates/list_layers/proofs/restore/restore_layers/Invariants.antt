use Rattle.std.proofs.Common.{◌≡◌, ℕ, map, vec_len}
use Rattle.order_graph.specs.Lists.{lists_of}
use Rattle.list_layers.specs.Walked.{IsRestored, StandsBeforeLast}
use Rattle.list_layers.proofs.restore.restore_layers.Given as goal

abbrev pub invariant-loop-d : goal.invariant-loop-d
invariant-loop-d l = record {
  count : vec_len l.marks ≡ vec_len l.fn.marks;
  each : (m : ℕ) → IsRestored (lists_of l.graph)
      (StandsBeforeLast l.d (map (λ layer. layer.items) l.layers)) l.fn.marks.items l.marks.items m;
}
