use Rattle.std.proofs.Common.{◌≡◌, ℕ, inl, inr, List, get_or, slice_index, sym, subst, ◌∙◌}
use Rattle.std.proofs.Common.{arith}
use Rattle.std.proofs.lemmas.Bool.{cases_eq}
use Rattle.std.proofs.lemmas.List.{get_or_default}
use Rattle.std.proofs.lemmas.List.Elements.{Contains-get_or}
use Rattle.order_graph.specs.Lists.{lists_of}
use Rattle.list_search.specs.Graph.{Before}
use Rattle.list_search.specs.Progress.{IsExpanded}
use Rattle.list_layers.specs.Progress.{Follows, Goes, HasSpot, StandsIn}
use Rattle.list_layers.proofs.Growing.{goes_both, goes_weaker}
use Rattle.list_layers.proofs.expand.expand_all.Goals as goal

pub loop-x-preserved : goal.loop-x-preserved
loop-x-preserved c =
    let rows = lists_of c.args.graph.now in
    let layer : List ℕ = c.args.layer.now in
    let i : ℕ = c.loop-x.x-index in
    let x : ℕ = get_or layer i 0 in
    let before = c.loop-x.invariant in
    let after = c.in_ok-expand.ensures in
    let b = c.loop-x.state in
    let d = c.expand.new.state in
    let there = Contains-get_or layer i 0 (omega arith) in
    let step : Goes c.args.first (Follows rows layer) (StandsIn rows layer) b c.loop-x.next.items d
    c.expand.new.next.items =
    goes_weaker c.args.first (Before rows x) (Follows rows layer) (HasSpot rows x) (StandsIn rows layer) b d
    c.loop-x.next.items c.expand.new.next.items (λ z shown. (x, there, shown)) (λ l spot. (x, there, spot))
    after.goes in
    record {
      marks = after.marks ∙ before.marks;
      seen = after.seen ∙ before.seen;
      good = after.good;
      goes = goes_both c.args.first (Follows rows layer) (StandsIn rows layer) c.args.state.now b d
          c.args.next.now.items c.loop-x.next.items c.expand.new.next.items before.goes step;
      expanded = λ k low. elim (cases_eq k i) [
        | inl e ↦ subst (λ n. IsExpanded rows d.marks.items (slice_index layer n)) (sym e) after.expanded
        | inr other ↦ λ l p stands.
            (let was = before.expanded k (omega (arith, low, other)) l p stands in
            let less = after.goes.falls l in
            omega (arith, was, less))
      ];
    }

pub returns-clause-expanded : goal.returns-clause-expanded
returns-clause-expanded c = λ x has.
    let rows = lists_of c.args.graph.now in
    let layer : List ℕ = c.args.layer.now in
    let is : slice_index layer has.0 ≡ x = get_or_default layer has.0 0 x has.1 ∙ has.2 in
    subst (λ y. IsExpanded rows c.loop-x.state.marks.items y) is
    (c.loop-x.invariant.expanded has.0 (let lt = has.1 in omega (arith, lt)))
