use Rattle.std.proofs.Common.{◌≡◌, ℕ, ◌-◌, inl, inr, List, [], Vec, Global, map, get_or, ap}
use Rattle.std.proofs.Common.{sym, subst, ◌∙◌, arith}
use Rattle.std.specs.Prelude.{Contains}
use Rattle.std.proofs.lemmas.Bool.{cases_eq}
use Rattle.std.proofs.lemmas.List.{get_or-map}
use Rattle.list_layers.proofs.restore.restore_layers.Goals as goal

pub loop-d-preserved : goal.loop-d-preserved
loop-d-preserved c =
    let layers : List (List ℕ) = map (λ (layer : Vec ℕ Global). layer.items) c.args.layers.now in
    let d : ℕ = c.loop-d.d in
    let e = c.restore_layer.ensures in
    let item : Vec ℕ Global = c.index-layers-d.result in
    let is : c.as_slice.result.now ≡ get_or layers (d - 1) [] =
    c.as_slice.ensures.value ∙ ap (λ (layer : Vec ℕ Global). layer.items) c.index-layers-d.is
    ∙ sym (get_or-map (λ (layer : Vec ℕ Global). layer.items) c.args.layers.now (d - 1) item []
    (omega arith)) in
    record {
      count = e.count ∙ c.loop-d.invariant.count;
      each = λ m. elim (e.restored m) [
        | inl done ↦ inl done
        | inr (same, none) ↦ elim (c.loop-d.invariant.each m) [
          | inl was ↦ inl (same ∙ was)
          | inr (was, others) ↦ inr (
            same ∙ was,
            λ x at spot. elim (cases_eq at.0 (d - 1)) [
              | inl here ↦
                  none x
                  (subst (λ l. Contains l x) (ap (λ i. get_or layers i []) here ∙ sym is) at.2) spot
              | inr apart ↦ others x (at.0, (let lt = at.1 in omega (arith, lt, apart)), at.2) spot
            ],
          )
        ]
      ];
    }

pub returns-clause-restored : goal.returns-clause-restored
returns-clause-restored c l = elim (c.loop-d.invariant.each l) [
  | inl done ↦ inl done
  | inr (was, none) ↦ inr (
    was,
    λ x at. none x (at.0, (let lt = at.1 in omega (arith, lt)), at.2),
  )
]
