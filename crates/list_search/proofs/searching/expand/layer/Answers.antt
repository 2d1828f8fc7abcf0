use Rattle.std.proofs.Common.{◌≡◌, ℕ, ◌<◌, ◌≤◌, slice_index, subst, sym, ap, ◌∙◌, arith, inl, inr}
use Rattle.std.proofs.lemmas.Bool.{cases_eq}
use Rattle.std.proofs.lemmas.Grind.{common_steps}
use Rattle.order_graph.specs.Lists.{lists_of}
use Rattle.list_search.specs.Graph.{Before}
use Rattle.list_search.specs.Progress.{FollowsLayer, Grows, IsExpanded}
use Rattle.list_search.proofs.Growth.{grows_both, grows_weaker, still_expanded, works_next, works_step}
use Rattle.list_search.proofs.searching.expand.layer.Goals as goal

pub loop-k-preserved : goal.loop-k-preserved
loop-k-preserved c =
    let before = c.loop-k.invariant in
    let after = c.expand.ensures in
    let rows = (lists_of c.args.graph.now) in
    let s : ℕ = c.args.element in
    let k : ℕ = c.loop-k.k in
    let a = c.args.state.now in
    let b = c.loop-k.state in
    let d = c.expand.new.state in
    let x : ℕ = c.index-x.result.now in
    let P : ℕ → Type 0 = FollowsLayer rows a.queue.items c.args.head c.args.end in
    let low : c.args.head ≤ k = omega arith in
    let high : k < c.args.end = omega arith in
    let old_tail : k < a.tail = omega arith in
    let is_b : x ≡ slice_index b.queue.items k = grind (arith, common_steps) in
    let is_a : x ≡ slice_index a.queue.items k = is_b ∙ before.grows.kept k old_tail in
    let step : Grows P s b d =
    grows_weaker (Before rows x) P s b d
    (λ z leads. record { at = k; from = low; to = high; before = subst (λ y. Before rows y z) is_a leads })
    after.grows in
    let kept : (i : ℕ) → i < c.args.end → slice_index d.queue.items i ≡ slice_index b.queue.items i =
    λ i h. step.kept i (let t = before.grows.tail in omega arith) in
    record {
      good = after.good;
      grows = grows_both P s a b d before.grows step;
      expanded = λ i from to. elim (cases_eq i k) [
        | inl same ↦ subst (λ y. IsExpanded rows d.marks.items y)
            (is_b ∙ sym (kept k high) ∙ ap (λ j. slice_index d.queue.items j) (sym same)) after.expanded
        | inr other ↦ subst (λ y. IsExpanded rows d.marks.items y) (sym (kept i (omega arith)))
            (still_expanded P s b d rows (slice_index b.queue.items i) step
            (before.expanded i from (omega arith)))
      ];
      forward = let h = after.forward in let g = before.forward in omega arith;
      works = works_next a b d c.args.looked.now c.loop-k.looked c.expand.new.looked before.works
          after.forward after.works;
      one = λ h. works_step a b d c.args.looked.now c.loop-k.looked c.expand.new.looked before.works
          after.works;
      cost = let h = after.cost in let g = before.cost in omega arith;
    }

pub returns-clause-expanded : goal.returns-clause-expanded
returns-clause-expanded c = λ k from to. c.loop-k.invariant.expanded k from (omega arith)
