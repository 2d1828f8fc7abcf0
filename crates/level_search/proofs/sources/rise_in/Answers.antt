-- One place more, whose element has no rank or a higher one than those before it.
use Rattle.std.proofs.Common.{◌≡◌, ℕ, ◌<◌, ◌≤◌, length, slice_index, subst, sym, ap, ◌∙◌, arith, inl}
use Rattle.std.proofs.Common.{inr}
use Rattle.std.proofs.lemmas.Bool.{cases_eq}
use Rattle.order_graph.specs.Lists.{lists_of, Stands}
use Rattle.level_search.specs.Sources.{IsRanked}
use Rattle.level_search.proofs.Rising.{fewer-ranked, fewer-then}
use Rattle.level_search.proofs.sources.rise_in.Goals as goal

pub loop-j-preserved : goal.loop-j-preserved
loop-j-preserved c =
    let rows = lists_of c.args.graph.now in
    let l : ℕ = c.args.list in
    let j : ℕ = c.loop-j.j in
    let inv = c.loop-j.invariant in
    let old = c.loop-j.ranks in
    let new = c.rise_at-next.new.ranks in
    let e = c.rise_at-next.ensures in
    let was : (x : ℕ) → IsRanked new x → IsRanked old x = fewer-ranked old new e.fewer in
    let value = c.list.ensures.value in
    let same : (x : ℕ) → Stands rows l j x → slice_index c.list.result.now j ≡ x =
    λ x here. ap (λ r. slice_index r j) value ∙ here.here in
    let above : (x : ℕ) → Stands rows l j x → IsRanked new x → (c.loop-j.next ≤ slice_index new x)
    × (slice_index new x < c.rise_at-next.result) =
    λ x here ranked. subst (λ i. (c.loop-j.next ≤ slice_index new i) × (slice_index new i < c.rise_at-next.result))
    (same x here) (e.above (subst (IsRanked new) (sym (same x here)) ranked)) in
    record {
      count = e.count ∙ inv.count;
      fewer = fewer-then _ old new inv.fewer e.fewer;
      small = e.next.1;
      below = λ p x under here ranked. elim (cases_eq p j) [
        | inl is ↦ (above x (subst (λ i. Stands rows l i x) is here) ranked).1
        | inr other ↦
            let low = inv.below p x (omega arith) here (was x ranked) in
            omega (arith, e.fewer x ranked, e.next.0)
      ];
      rise = λ p q x y lt under first second ranked later. elim (cases_eq q j) [
        | inl is ↦
            let low = inv.below p x (omega arith) first (was x ranked) in
            let high = (above y (subst (λ i. Stands rows l i y) is second) later).0 in
            omega (arith, e.fewer x ranked)
        | inr other ↦
            let low = inv.rise p q x y lt (omega arith) first second (was x ranked) (was y later) in
            omega (arith, e.fewer x ranked, e.fewer y later)
      ];
    }

pub returns-clause-rise : goal.returns-clause-rise
returns-clause-rise c =
    let value = c.list-j-end.ensures.value in
    record {
      rises = λ p q x y lt first second ranked later.
          let within = second.within in
          c.loop-j.invariant.rise p q x y lt (omega (arith, c.loop-j-test.false, ap length value)) first second
          ranked later;
    }
