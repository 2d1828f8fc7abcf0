use Rattle.std.proofs.Common.{◌≡◌, ℕ, ◌<◌, Vec, Global, length, ap, subst}
use Rattle.std.specs.Prelude.{IfOk}
use Rattle.specification.specs.Responses.{Responses}
use Rattle.order_graph.specs.Lists.{lists_of}
use Rattle.bit_tables.specs.Rule.{layer_at}
use Rattle.list_layers.specs.View.{LayersView}
use Rattle.list_layers.specs.Ways.{IsLayerAt}
use Rattle.list_layers.proofs.list_layers.ListLayers.layers_from.Goals as goal

pub returns-clause-layers : goal.returns-clause-layers
returns-clause-layers c =
    let is : c.self.inside.graph.now ≡ c.args.self.now.graph =
    ap (λ (v : LayersView). v.graph) c.self.view_is in
    subst (λ (v : Responses). IfOk c.layers_on.result (λ (layers : Vec (Vec ℕ Global) Global). (d : ℕ)
    → d < c.args.count
    → IsLayerAt (length v.elements) (lists_of v) c.args.source d (layer_at layers.items d))) is
    c.layers_on.ensures.layers
