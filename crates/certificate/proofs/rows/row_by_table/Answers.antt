use Rattle.std.proofs.Common.{◌≡◌, ℕ, ◌-◌, ◌<◌, List, Vec, Global, get_or, map, length, [], ap, sym, subst}
use Rattle.std.proofs.Common.{◌∙◌, arith}
use Rattle.std.specs.Prelude.{All}
use Rattle.specification.specs.Versions.{two}
use Rattle.specification.specs.LayerRule.{Row, row_responses}
use Rattle.specification.specs.ExactRows.{IsExactRow}
use Rattle.order_graph.specs.Kept.{names_at}
use Rattle.order_graph.specs.Lists.{lists_of}
use Rattle.bit_tables.specs.Rule.{layer_at}
use Rattle.bit_tables.specs.Ways as tables
use Rattle.list_layers.specs.Ways.{IsLayerAt}
use Rattle.certificate.proofs.ListWays.{exact_row, within-layers}
use Rattle.certificate.proofs.SameLayers.{table_layer}
use Rattle.certificate.proofs.rows.row_by_table.Goals as goal

pub layers_of-requires : goal.layers_of-requires
layers_of-requires c =
    let v = c.args.graph.now in
    let n : ℕ = length v.elements in
    let s : ℕ = c.args.source in
    let numbers : List (Vec ℕ Global) = c.in_ok-numbers.numbers.items in
    let count : length numbers ≡ c.args.k - 1 =
    omega (arith, c.in_ok-numbers.numbers.ok, c.in_ok-numbers.ensures.count) in
    let each : (d : ℕ) → d < c.args.k - 1 → IsLayerAt n (lists_of v) s d (layer_at numbers d) = λ d lt.
    table_layer v c.elements-elements.ensures.proper c.args.table.now c.requires.table s d (layer_at numbers d)
    (subst (λ m. tables.IsLayerAt m c.args.table.now s s d (layer_at numbers d))
    c.elements-elements.ensures.value (c.in_ok-numbers.ensures.layers d lt)) in
    subst (λ (layers : List (Vec ℕ Global)). All (λ (layer : Vec ℕ Global). All (λ x. x < n) layer.items)
    layers) (sym c.deref.ensures.value)
    (within-layers n (c.args.k - 1) s (lists_of v) numbers count each)

pub returns : goal.returns
returns c =
    let v = c.args.graph.now in
    let n : ℕ = length v.elements in
    let s : ℕ = c.args.source in
    let name = get_or v.elements s [] in
    let numbers : List (Vec ℕ Global) = c.in_ok-numbers.numbers.items in
    let count : length numbers ≡ c.args.k - 1 =
    omega (arith, c.in_ok-numbers.numbers.ok, c.in_ok-numbers.ensures.count) in
    let each : (d : ℕ) → d < c.args.k - 1 → IsLayerAt n (lists_of v) s d (layer_at numbers d) = λ d lt.
    table_layer v c.elements-elements.ensures.proper c.args.table.now c.requires.table s d (layer_at numbers d)
    (subst (λ m. tables.IsLayerAt m c.args.table.now s s d (layer_at numbers d))
    c.elements-elements.ensures.value (c.in_ok-numbers.ensures.layers d lt)) in
    let is : c.from_items.result ≡ map (λ (layer : Vec ℕ Global). names_at v.elements layer.items) numbers =
    c.from_items.ensures ∙ c.in_ok-layers.ensures
    ∙ ap (map (λ (layer : Vec ℕ Global). names_at v.elements layer.items)) c.deref.ensures.value in
    subst (λ (row : Row). IsExactRow (row_responses two v name) c.args.k name row) (sym is)
    (exact_row v c.elements-elements.ensures.proper s c.requires.element c.args.k numbers c.requires.some
    count each)
