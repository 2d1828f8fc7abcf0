-- One element of the layer more is looked at; those before it are none of the layer.
use Rattle.std.proofs.Common.{◌≡◌, ℕ, ◌∙◌, List, length, inl, inr, refl, sym, ap, subst, arith}
use Rattle.std.proofs.Common.{true≢false}
use Rattle.std.proofs.lemmas.Bool.{cases_lt}
use Rattle.bit_tables.specs.Lists.{row_of}
use Rattle.bit_tables.specs.Sets.{Has}
use Rattle.order_graph.specs.Lists.{lists_of}
use Rattle.level_search.specs.LayerSizes.{counted}
use Rattle.level_search.proofs.BallLemmas.{before_shown, shown_before}
use Rattle.level_search.proofs.LayerSizes.{layer-gap, looked-next}
use Rattle.level_search.proofs.tabled.closes.Goals as goal

pub returns-then-contains-clause-found : goal.returns-then-contains-clause-found
returns-then-contains-clause-found c =
    let sets = c.args.sets.now in
    let rows : List (List ℕ) = lists_of c.args.graph.now in
    let s : ℕ = c.args.element in
    let x : ℕ = c.in-Some.x in
    let some = c.in-Some.ensures.some in
    let inv = c.layer.invariant in
    λ _. (
      x,
      record {
        here = some.1;
        before =
            shown_before rows s x ((c.requires.shown s x some.1.known).0
            (subst (λ (row : List ℕ). Has row s) c.before-in-Some.ensures (c.if-contains.ensures.0 refl)));
        first = λ y low layer. elim (cases_lt y c.layer.from) [
          | inl less ↦
              λ before. inv.missed y less layer.reached layer.not_near
              ((c.requires.shown s y layer.known).1 (before_shown rows s y before))
          | inr from ↦ absurd (layer.not_near (c.in-Some.ensures.first y from low layer.reached))
        ];
      },
      looked-next _ _ _ _ _ _ some.0 c.in-Some.ensures.first some.1.reached some.1.not_near inv.looked
          c.expand.ensures.ticked,
    )

pub layer-preserved : goal.layer-preserved
layer-preserved c =
    let sets = c.args.sets.now in
    let x : ℕ = c.in-Some.x in
    let some = c.in-Some.ensures.some in
    let inv = c.layer.invariant in
    record {
      within = (let known = some.1.known in omega (arith, known));
      looked =
          looked-next _ _ _ _ _ _ some.0 c.in-Some.ensures.first some.1.reached some.1.not_near inv.looked
          c.expand.ensures.ticked;
      missed = λ y low reached not_near. elim (cases_lt y c.layer.from) [
        | inl before ↦ inv.missed y before reached not_near
        | inr from ↦ elim (cases_lt y x) [
          | inl between ↦ absurd (not_near (c.in-Some.ensures.first y from between reached))
          | inr past ↦ λ has.
              let e : y ≡ x = omega (arith, low, past) in
              let here = subst (λ (i : ℕ). Has (row_of c.args.table.now i) c.args.element) e has in
              true≢false
              (sym (c.if-contains.ensures.1
              (subst (λ (row : List ℕ). Has row c.args.element) (sym c.before-in-Some.ensures) here)))
        ]
      ];
    }

pub returns-clause-looked : goal.returns-clause-looked
returns-clause-looked c =
    let n : ℕ = length c.args.graph.now.elements in
    let inv = c.layer.invariant in
    λ _. inv.looked
    ∙ ap (λ k. counted k c.args.looked.now)
    (sym (layer-gap c.args.sets.now c.layer.from n inv.within c.in_default.ensures.none))
