use Rattle.std.proofs.Common.{◌≡◌, ℕ, ◌++◌, [], ◌∷◌, List, length, get_or, subst, sym, ap, arith}
use Rattle.std.proofs.lemmas.Grind.{common_steps}
use Rattle.std.proofs.lemmas.List.{length_push}
use Rattle.specification.specs.Conflict.{Step}
use Rattle.order_graph.specs.Lists.{lists_of}
use Rattle.list_search.specs.Graph.{Before}
use Rattle.level_search.specs.Steps.{AreStepsOf, IsStepBetween, next_in}
use Rattle.level_search.proofs.StepsRound.{ring-next, steps-push}
use Rattle.level_search.proofs.cycles.steps.steps_of.Goals as goal

pub step_between-step-requires-clause-before : goal.step_between-step-requires-clause-before
step_between-step-requires-clause-before c =
    let ring : List ℕ = c.args.ring.now in
    let i : ℕ = c.loop-i.i in
    subst (λ b. Before (lists_of c.args.graph.now) (get_or ring i 0) b) (sym c.behind.ensures)
    (ring-next (lists_of c.args.graph.now) ring i c.requires.ring c.loop-i-test.true)

pub loop-i-preserved : goal.loop-i-preserved
loop-i-preserved c =
    let ring : List ℕ = c.args.ring.now in
    let i : ℕ = c.loop-i.i in
    let steps : List Step = c.loop-i.steps.items in
    let step : Step = c.step_between-step.result in
    let count : length steps ≡ i = c.loop-i.invariant.count in
    let pushed : c.push.new.self.items ≡ steps ++ step ∷ [] =
    grind (arith, common_steps, c.in_ok-push.ensures.items) in
    let here : IsStepBetween c.args.graph.now (get_or ring i 0) (next_in ring i) step =
    subst (λ b. IsStepBetween c.args.graph.now (get_or ring i 0) b step) c.behind.ensures
    c.step_between-step.ensures in
    let last : IsStepBetween c.args.graph.now (get_or ring (length steps) 0)
    (next_in ring (length steps)) step =
    subst (λ n. IsStepBetween c.args.graph.now (get_or ring n 0) (next_in ring n) step) (sym count) here in
    record {
      count = let e = ap length pushed in let f = length_push steps step in omega arith;
      steps = subst (λ l. AreStepsOf c.args.graph.now ring l) (sym pushed)
          (steps-push c.args.graph.now ring steps step c.loop-i.invariant.steps last);
    }
