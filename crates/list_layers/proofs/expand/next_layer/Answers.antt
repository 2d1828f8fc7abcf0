use Rattle.std.proofs.Common.{ℕ, inl, inr, List, [], subst, arith}
use Rattle.std.specs.Prelude.{Contains}
use Rattle.std.specs.List.Sorted.{IsPermutation}
use Rattle.std.proofs.lemmas.List.Sorted.{Contains-permutation, IsNonDecreasingBy-from_sort, IsPermutation-sym}
use Rattle.order_graph.specs.Lists.{lists_of}
use Rattle.list_layers.specs.Progress.{Goes, Follows, StandsIn}
use Rattle.list_layers.proofs.Growing.{entered_none, sorted_rise}
use Rattle.list_layers.proofs.expand.next_layer.Goals as goal

pub returns-clause-next : goal.returns-clause-next
returns-clause-next c =
    let rows = lists_of c.args.graph.now in
    let layer : List ℕ = c.args.layer.now in
    let first : ℕ = c.args.first in
    let a = c.args.state.now in
    let b = c.expand_all.new.state in
    let gathered : List ℕ = c.expand_all.new.next.items in
    let next : List ℕ = c.sort_unstable.new.self.items in
    let after = c.in_ok-expand_all.ensures in
    let moved : IsPermutation gathered next = c.sort_unstable.ensures.permutation in
    let goes : Goes first (Follows rows layer) (StandsIn rows layer) a [] b gathered =
    subst (λ l. Goes first (Follows rows layer) (StandsIn rows layer) a l b gathered) c.new-next.ensures.items
    after.goes in
    let back : (x : ℕ) → Contains next x → Contains gathered x =
    λ x has. Contains-permutation next gathered x (IsPermutation-sym gathered next moved) has in
    let none : (x : ℕ) → ¬ Contains {X = ℕ} [] x = λ x has. (let lt = has.1 in omega (arith, lt)) in
    record {
      fresh = λ x has. elim (goes.grows.fresh x (back x has)) [
        | inl old ↦ absurd (none x old)
        | inr new ↦ new
      ];
      now = λ x. (
        λ seen. elim (goes.grows.only x seen) [
          | inl was ↦ inl was
          | inr has ↦ inr (Contains-permutation gathered next x moved has)
        ],
        λ either. elim either [
          | inl was ↦ goes.grows.stays x was
          | inr has ↦ (goes.grows.entered (entered_none a.seen.items)).are_seen x (back x has)
        ],
      );
      all = λ y x has shown counts.
          (let expanded = after.expanded y has shown.list shown.place shown.first in
          let later = shown.in_order in
          after.good.covered shown.list shown.later x (omega (arith, expanded, later)) shown.second counts);
      rising = sorted_rise gathered next (goes.grows.entered (entered_none a.seen.items)).apart moved
          (IsNonDecreasingBy-from_sort (λ (x : ℕ). x) next c.sort_unstable.ensures.sorted);
    }
