-- The next element of the layer, and after the last.
use Rattle.std.proofs.Common.{◌≡◌, ℕ, ◌+◌, ◌<◌, ◌≤◌, ◌∙◌, inl, inr, List, length, sym, ap, subst, arith}
use Rattle.std.proofs.lemmas.Bool.{cases_eq}
use Rattle.bit_tables.specs.Sets.{Has}
use Rattle.bit_tables.specs.Lists.{row_of}
use Rattle.level_search.specs.Balls.{IsInLayer}
use Rattle.level_search.specs.LayerSizes.{counted}
use Rattle.level_search.proofs.BallLemmas.{layer_from, layer_to}
use Rattle.level_search.proofs.LayerSizes.{layer-gap, looked-next}
use Rattle.level_search.proofs.tabled.sets.Sets.gather.Goals as goal

pub layer-preserved : goal.layer-preserved
layer-preserved c =
    let inv = c.layer.invariant in
    let sets = c.args.self.now in
    let x : ℕ = c.in-Some.x in
    let from : ℕ = c.layer.from in
    let table : List (List ℕ) = c.args.table.now in
    let some = c.in-Some.ensures.some in
    let none : (y : ℕ) → from ≤ y → y < x → Has sets.reached y → Has sets.near y =
    rw (inv.near, inv.reached) at c.in-Some.ensures.first in
    let here : IsInLayer (x + 1) sets x = record {
      known = omega arith;
      reached = rw inv.reached at some.1.reached;
      not_near = rw inv.near at some.1.not_near;
    } in
    let row : List ℕ = c.before-in-Some.result.now in
    let is : row ≡ row_of table x = c.before-in-Some.ensures in
    let joined = c.union_with.ensures in
    record {
      within = (let k = some.1.known in omega (arith, k));
      fits = record { near = inv.fits.near; reached = inv.fits.reached; next = joined.len ∙ inv.fits.next };
      looked =
          looked-next _ _ _ _ _ _ some.0 none here.reached here.not_near inv.looked c.expand.ensures.ticked;
      near = inv.near;
      reached = inv.reached;
      next = λ y. (
        λ has. elim ((joined.has y).0 has) [
          | inl was ↦ let o =
              (inv.next y).0 was in (o.0, layer_to from (x + 1) sets o.0 (omega (arith, some.0)) o.1, o.2)
          | inr now ↦ (x, here, subst (λ (s : List ℕ). Has s y) is now)
        ],
        λ o. (joined.has y).1 (elim (cases_eq o.0 x) [
          | inl e ↦ inr (subst (λ (s : List ℕ). Has s y) (sym is) (subst (λ i. Has (row_of table i) y) e o.2))
          | inr apart ↦ inl ((inv.next y).1 (o.0, layer_from from x sets some.0 none o.0 o.1 apart, o.2))
        ]),
      );
    }

pub returns-clause-looked : goal.returns-clause-looked
returns-clause-looked c =
    let inv = c.layer.invariant in
    let sets = c.args.self.now in
    let from : ℕ = c.layer.from in
    let n : ℕ = length c.args.graph.now.elements in
    let none : (y : ℕ) → from ≤ y → y < n → Has sets.reached y → Has sets.near y =
    rw (inv.near, inv.reached) at c.in_default.ensures.none in
    inv.looked ∙ ap (λ k. counted k c.args.looked.now) (sym (layer-gap sets from n inv.within none))
