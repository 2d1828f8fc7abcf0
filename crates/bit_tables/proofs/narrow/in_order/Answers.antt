use Rattle.std.proofs.Common.{◌≡◌, ℕ, [], ◌∷◌, ◌++◌, arith, rules}
use Rattle.std.specs.Prelude.{Contains}
use Rattle.std.proofs.lemmas.Grind.{common_steps}
use Rattle.std.proofs.lemmas.List.Elements.{Contains-append_left, Contains-get_or, Contains-push}
use Rattle.std.proofs.lemmas.List.Sorted.{Contains-permutation, IsNonDecreasingBy-from_sort}
use Rattle.bit_tables.proofs.narrow.in_order.Goals as goal

pub returns : goal.returns
returns c =
    let old = c.push.new.self.items in
    let new = c.sort_unstable.new.self.items in
    let pushed : old ≡ c.args.depths.now ++ c.args.count ∷ [] =
    grind (
      arith,
      common_steps,
      c.in_ok-push.ensures.items,
      c.in_ok-extend_from_slice.ensures.items,
      c.in_ok-wide.ensures.items,
    ) in
    let kept : (x : ℕ) → Contains (c.args.depths.now ++ c.args.count ∷ []) x → Contains new x =
    λ x has. Contains-permutation old new x c.sort_unstable.ensures.permutation (rw pushed has) in
    record {
      rising = IsNonDecreasingBy-from_sort (λ (x : ℕ). x) _ c.sort_unstable.ensures.sorted;
      len = search rules;
      depths = λ k d lt. kept _ (Contains-append_left _ _ _ (Contains-get_or c.args.depths.now k d lt));
      count = kept c.args.count (Contains-push c.args.depths.now c.args.count);
    }
