use Rattle.std.proofs.Common.{ℕ, Vec, Global, map}
use Rattle.list_search.specs.Graph.{graph_of}
use Rattle.list_layers.proofs.Walking.{walked_layer}
use Rattle.list_layers.proofs.layers.layers_on.Goals as goal

pub returns-in-Ok-clause-layers : goal.returns-in-Ok-clause-layers
returns-in-Ok-clause-layers c = λ d lt.
    walked_layer (graph_of c.args.graph.now) c.args.source c.args.count
    (map (λ (layer : Vec ℕ Global). layer.items) c.in-Ok.layers.items) c.walk.new.state
    c.in-Ok.ensures.walked d lt
