use Rattle.std.proofs.Common.{◌≡◌, ℕ, inl, inr, [], Vec, Global, ap}
use Rattle.std.proofs.Common.{sym, subst, ◌∙◌, arith}
use Rattle.std.specs.Prelude.{Contains}
use Rattle.std.proofs.lemmas.Bool.{cases_eq}
use Rattle.std.proofs.lemmas.List.{get_or-map}
use Rattle.bit_tables.specs.Rule.{layer_at}
use Rattle.list_layers.proofs.restore.forget_all.Goals as goal

pub loop-layer-preserved : goal.loop-layer-preserved
loop-layer-preserved c =
    let k : ℕ = c.loop-layer.layer-index in
    let e = c.forget.ensures in
    let item : Vec ℕ Global = c.layer-item.result in
    let is : c.as_slice.result.now ≡ layer_at c.args.layers.now k =
    c.as_slice.ensures.value ∙ ap (λ (layer : Vec ℕ Global). layer.items) c.layer-item.is
    ∙ sym (get_or-map (λ (layer : Vec ℕ Global). layer.items) c.args.layers.now k item []
    c.loop-layer-test.true) in
    record {
      places = e.places ∙ c.loop-layer.invariant.places;
      left = λ x seen.
          let now = e.seen x seen in
          let before = c.loop-layer.invariant.left x now.0 in (
            before.0,
            λ j lt has. elim (cases_eq j k) [
              | inl here ↦
                  now.1
                  (subst (λ l. Contains l x) (ap (λ i. layer_at c.args.layers.now i) here ∙ sym is) has)
              | inr apart ↦ before.1 j (omega (arith, lt, apart)) has
            ],
          );
    }

pub returns-clause-seen : goal.returns-clause-seen
returns-clause-seen c = λ x seen.
    let left = c.loop-layer.invariant.left x seen in
    (left.0, λ j lt. left.1 j (omega (arith, lt)))
