use Rattle.std.proofs.Common.{◌≡◌, ℕ, ◌∙◌, Vec, Global, map, length, ap, subst}
use Rattle.std.specs.Prelude.{◌↔◌, IsTrue, slice_index_or}
use Rattle.bit_tables.specs.Rule.{AreDepths, MeetsRule}
use Rattle.bit_tables.proofs.DepthLemmas.{are-depths, within-layers, from-layers}
use Rattle.bit_tables.proofs.depths.are_deep_in_layers.Goals as goal

pub meets_rule-requires-clause-within : goal.meets_rule-requires-clause-within
meets_rule-requires-clause-within c =
    rw c.deref.ensures.value
    (within-layers _ _ _ _ c.in_ok-layers.ensures.count c.requires.most c.in_ok-layers.ensures.layers)

pub meets_rule-requires-clause-from : goal.meets_rule-requires-clause-from
meets_rule-requires-clause-from c =
    rw c.deref.ensures.value
    (from-layers _ _ _ _ c.in_ok-layers.ensures.count c.requires.most c.in_ok-layers.ensures.layers)

pub returns : goal.returns
returns c = λ lists table.
    let depth : ℕ → ℕ = λ x. slice_index_or c.args.depths.now x c.args.count in
    let depths :
    AreDepths c.args.first (map (λ (layer : Vec ℕ Global). layer.items) c.deref.result.now) depth =
    rw c.deref.ensures.value
    (are-depths _ _ _ _ c.in_ok-layers.ensures.count c.requires.most c.in_ok-layers.ensures.layers) in
    let size : length c.deref.result.now ≡ c.args.count =
    ap length c.deref.ensures.value ∙ c.in_ok-layers.ensures.count in
    subst (λ (m : ℕ). IsTrue c.in_ok-deep.deep ↔ MeetsRule lists c.args.first c.args.source m depth) size
    (c.in_ok-deep.ensures lists depth table depths)
