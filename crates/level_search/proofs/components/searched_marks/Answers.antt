-- One element more, with its mark.
use Rattle.std.proofs.Common.{◌≡◌, ℕ, ◌<◌, ◌++◌, [], ◌∷◌, Bool, true, false, List, get_or, length, sym}
use Rattle.std.proofs.Common.{subst, arith, inl, inr}
use Rattle.std.specs.Prelude.{◌↔◌}
use Rattle.std.proofs.lemmas.Bool.{cases_eq}
use Rattle.std.proofs.lemmas.List.{get_or_append_left, get_or_push}
use Rattle.specification.specs.Responses.{Responses}
use Rattle.level_search.specs.Cores.{LiesOnCycle}
use Rattle.level_search.proofs.components.searched_marks.Goals as goal

pub loop-x-preserved : goal.loop-x-preserved
loop-x-preserved c =
    let v : Responses = c.args.graph.now in
    let xs : List Bool = c.loop-x.marks.items in
    let x : ℕ = c.loop-x.x in
    let b : Bool = c.is_on_cycle.result in
    let inv = c.loop-x.invariant in
    let count : length xs ≡ x = omega (arith, inv.count, c.loop-x.marks.ok) in
    let pushed : c.push.new.self.items ≡ xs ++ b ∷ [] = c.in_ok-push.ensures.items in
    record {
      fits = c.is_on_cycle.ensures.fits;
      count = omega (arith, inv.count, c.in_ok-push.ensures.len);
      marks = λ y under.
          subst (λ (l : List Bool). (get_or l y false ≡ true) ↔ LiesOnCycle v y) (sym pushed)
          (elim (cases_eq y x) as (λ _. (get_or (xs ++ b ∷ []) y false ≡ true) ↔ LiesOnCycle v y) [
            | inl same ↦
                let last : length xs ≡ y = omega arith in
                subst (λ (t : Bool). (t ≡ true) ↔ LiesOnCycle v y) (sym (get_or_push xs b false y last))
                (subst (λ z. (b ≡ true) ↔ LiesOnCycle v z) (sym same) c.is_on_cycle.ensures.answer)
            | inr other ↦
                let low : y < x = omega arith in
                subst (λ (t : Bool). (t ≡ true) ↔ LiesOnCycle v y)
                (sym (get_or_append_left xs (b ∷ []) false y (omega arith))) (inv.marks y low)
          ]);
    }
