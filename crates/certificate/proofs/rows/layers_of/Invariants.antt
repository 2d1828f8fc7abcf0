use Rattle.std.proofs.Common.{◌≡◌, map, take}
use Rattle.order_graph.specs.Kept.{names_at}
use Rattle.certificate.proofs.rows.layers_of.Given as goal

abbrev pub invariant-loop-layer : goal.invariant-loop-layer
invariant-loop-layer l =
    l.layers.items ≡ map (λ layer. names_at l.graph.elements layer.items) (take l.layer-index l.numbers)
