use Rattle.std.proofs.Common.{◌≡◌, ℕ, inl, inr, List, slice_index, refl, sym, subst, ◌∙◌, arith}
use Rattle.std.proofs.lemmas.Bool.{cases_eq}
use Rattle.std.proofs.lemmas.List.{get_or_default}
use Rattle.order_graph.specs.Lists.{lists_of}
use Rattle.list_layers.specs.Progress.{HasSpot}
use Rattle.list_layers.proofs.restore.restore_layer.Goals as goal

pub loop-x-preserved : goal.loop-x-preserved
loop-x-preserved c =
    let rows = lists_of c.args.graph.now in
    let layer : List ℕ = c.args.layer.now in
    let k : ℕ = c.loop-x.x-index in
    let e = c.restore_marks.ensures in
    record {
      count = e.count ∙ c.loop-x.invariant.count;
      each = λ m. elim (e.restored m) [
        | inl done ↦ inl done
        | inr (same, none) ↦ elim (c.loop-x.invariant.each m) [
          | inl was ↦ inl (same ∙ was)
          | inr (was, others) ↦ inr (
            same ∙ was,
            λ x at spot. elim (cases_eq at.0 k) [
              | inl here ↦
                  none spot.0
                  (subst (λ y. HasSpot rows y m) (sym at.2 ∙ (subst (λ i. slice_index layer i ≡ slice_index layer k) (sym here) refl)) spot).1
              | inr apart ↦ others x (at.0, (let lt = at.1 in omega (arith, lt, apart)), at.2) spot
            ],
          )
        ]
      ];
    }

pub returns-clause-restored : goal.returns-clause-restored
returns-clause-restored c l =
    let layer : List ℕ = c.args.layer.now in
    elim (c.loop-x.invariant.each l) [
      | inl done ↦ inl done
      | inr (was, none) ↦ inr (
        was,
        λ x has.
            none x (
              has.0,
              (let lt = has.1 in omega (arith, lt)),
              get_or_default layer has.0 0 x has.1 ∙ has.2,
            ),
      )
    ]
