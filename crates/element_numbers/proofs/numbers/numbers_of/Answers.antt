-- One name more has their count as its number, and no other name's number changes.
use Rattle.std.proofs.Common.{◌≡◌, ◌==◌, ℕ, ◌+◌, ◌<◌, cond, Option, Some, List, [], ◌∷◌, ◌++◌, take, length}
use Rattle.std.proofs.Common.{sym, ◌∙◌, ap, subst, arith}
use Rattle.std.specs.Prelude.{bytes_eq}
use Rattle.std.specs.Cmp.Lexicographic.{pointwise}
use Rattle.indexmap.specs.IndexMap.{get}
use Rattle.std.proofs.lemmas.List.{length-take-le}
use Rattle.events.specs.Names.{NameBytes}
use Rattle.specification.specs.Elements.{number_in}
use Rattle.specification.proofs.Members.{Once, Once-from_AllPairs}
use Rattle.element_numbers.proofs.NameNumbers.{Once-take, number-push}
use Rattle.element_numbers.proofs.OneMore.{take-next}
use Rattle.element_numbers.proofs.numbers.numbers_of.Goals as goal

pub loop-i-preserved : goal.loop-i-preserved
loop-i-preserved c = (
  λ a.
      let k : ℕ = c.loop-i.i in
      let xs : List NameBytes = c.args.names.now in
      let x : NameBytes = c.index-names-i.result in
      let lt : k < length xs = omega arith in
      let next : take (k + 1) xs ≡ take k xs ++ x ∷ [] = take-next xs k x lt c.index-names-i.is in
      let once : Once (take k xs ++ x ∷ []) =
      subst Once next (Once-take (k + 1) xs (Once-from_AllPairs xs c.requires.distinct)) in
      let size : k ≡ length (take k xs) = omega (arith, length-take-le k xs) in
      c.in_ok-insert.ensures.updates.0 a
      ∙ ap (λ n. cond (bytes_eq x a) (Some n) (get (pointwise ◌==◌) c.loop-i.numbers a)) size
      ∙ ap (λ (o : Option ℕ). cond (bytes_eq x a) (Some (length (take k xs))) o) (c.loop-i.invariant.0 a)
      ∙ sym (number-push (take k xs) x a once) ∙ ap (λ l. number_in l a) (sym next),
  c.in_ok-insert.ensures.hasher ∙ c.loop-i.invariant.1,
)
