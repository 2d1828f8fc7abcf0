-- One list more; past the last nothing stands.
use Rattle.std.proofs.Common.{◌≡◌, ℕ, ◌≤◌, List, [], length, subst, sym, ap, arith, inl, inr}
use Rattle.std.proofs.lemmas.Bool.{cases_eq, cases_lt}
use Rattle.std.proofs.lemmas.List.{get_or_past, length-map}
use Rattle.specification.specs.Responses.{Responses, Returned}
use Rattle.specification.specs.Elements.{numbers_in}
use Rattle.order_graph.specs.Lists.{lists_of, row, Stands}
use Rattle.level_search.specs.LowerBounds.{IsEntered, RisesByOne}
use Rattle.level_search.specs.declared.lower_bounds.levels.Levels.{Levels}
use Rattle.level_search.proofs.LowerBounds.{entered-lower}
use Rattle.level_search.proofs.lower_bounds.note_lists.Goals as goal

pub loop-list-preserved : goal.loop-list-preserved
loop-list-preserved c =
    let rows = lists_of c.args.graph.now in
    let l : ℕ = c.loop-list.list in
    let g : Levels = c.args.levels.now in
    record {
      rises = λ m under. elim (cases_eq m l) as (λ _. RisesByOne rows g m) [
        | inl same ↦ subst (λ k. RisesByOne rows g k) (sym same) c.in-Some.ensures.rises
        | inr other ↦ c.loop-list.invariant.rises m (omega arith)
      ];
      entered = λ m under. elim (cases_eq m l) as (λ _. IsEntered rows g c.in-Some.least m) [
        | inl same ↦ subst (λ k. IsEntered rows g c.in-Some.least k) (sym same) c.in-Some.ensures.entered
        | inr other ↦
            entered-lower rows g c.loop-list.entry c.in-Some.least m c.in-Some.ensures.falls
            (c.loop-list.invariant.entered m (omega arith))
      ];
    }

nothing : (v : Responses) (m p x : ℕ) → length v.returned ≤ m → ¬ Stands (lists_of v) m p x
nothing v m p x past stands =
    let count : length (lists_of v) ≡ length v.returned =
    length-map {B = List ℕ} v.returned (λ (r : Returned). numbers_in v.elements r.names) in
    let none : row (lists_of v) m ≡ [] = get_or_past (lists_of v) m [] (omega arith) in
    let within = stands.within in
    omega (arith, ap (λ (r : List ℕ). length r) none)

pub returns-clause-rises : goal.returns-clause-rises
returns-clause-rises c = λ m p q x y lt first second.
    let v : Responses = c.args.graph.now in
    elim (cases_lt m (length v.returned)) [
      | inl under ↦ c.loop-list.invariant.rises m (omega arith) p q x y lt first second
      | inr past ↦ absurd (nothing v m p x (omega arith) first)
    ]

pub returns-clause-entered : goal.returns-clause-entered
returns-clause-entered c = λ m p q x y lt first second here.
    let v : Responses = c.args.graph.now in
    elim (cases_lt m (length v.returned)) [
      | inl under ↦ c.loop-list.invariant.entered m (omega arith) p q x y lt first second here
      | inr past ↦ absurd (nothing v m p x (omega arith) first)
    ]
