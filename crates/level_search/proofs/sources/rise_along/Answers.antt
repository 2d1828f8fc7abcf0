-- One list more, along which the ranks rise: they still do along those before.
use Rattle.std.proofs.Common.{◌≡◌, ℕ, List, [], length, subst, sym, ap, ◌∙◌, arith, inl, inr}
use Rattle.std.proofs.lemmas.Bool.{cases_eq, cases_lt}
use Rattle.std.proofs.lemmas.List.{get_or_past, length-map}
use Rattle.specification.specs.Responses.{Responses, Returned}
use Rattle.specification.specs.Elements.{numbers_in}
use Rattle.order_graph.specs.Lists.{lists_of, row}
use Rattle.level_search.specs.Sources.{Rises}
use Rattle.level_search.proofs.Rising.{fewer-rise}
use Rattle.level_search.proofs.sources.rise_along.Goals as goal

pub loop-list-preserved : goal.loop-list-preserved
loop-list-preserved c =
    let rows = lists_of c.args.graph.now in
    let e = c.rise_in.ensures in
    record {
      count = e.count ∙ c.loop-list.invariant.count;
      rise = λ k under. elim (cases_eq k c.loop-list.list) [
        | inl same ↦ subst (Rises rows c.rise_in.new.ranks) (sym same) e.rise
        | inr other ↦ fewer-rise rows _ _ k e.fewer (c.loop-list.invariant.rise k (omega arith))
      ];
    }

pub returns-clause-rise : goal.returns-clause-rise
returns-clause-rise c = λ k.
    let v : Responses = c.args.graph.now in
    let rows = lists_of v in
    let count : length rows ≡ length v.returned =
    length-map {B = List ℕ} v.returned (λ (r : Returned). numbers_in v.elements r.names) in
    elim (cases_lt k (length rows)) [
      | inl under ↦ c.loop-list.invariant.rise k (omega arith)
      | inr past ↦
          let none : row rows k ≡ [] = get_or_past rows k [] (omega arith) in
          record {
            rises = λ p q x y lt first second ranked later.
                let within = first.within in
                absurd (omega (arith, ap (λ (r : List ℕ). length r) none));
          }
    ]
