use Rattle.std.proofs.Common.{◌≡◌, map, vec_len}
use Rattle.list_search.specs.Graph.{graph_of}
use Rattle.list_layers.specs.Walked.{IsWalked}
use Rattle.list_layers.proofs.layers.walk.Given as goal

abbrev pub invariant-loop-d : goal.invariant-loop-d
invariant-loop-d l = record {
  marks : vec_len l.state.marks ≡ vec_len l.fn.state.marks;
  seen : vec_len l.state.seen ≡ vec_len l.fn.state.seen;
  walked : IsWalked (graph_of l.graph) l.source l.d (map (λ layer. layer.items) l.layers.items) l.state;
}
