-- A run more is copied, and one number more looked up.
use Rattle.std.proofs.Common.{◌∙◌, ℕ, ◌+◌, [], ◌∷◌, ◌++◌, take, drop, sym, ap, arith, append_assoc}
use Rattle.std.proofs.Common.{length-drop}
use Rattle.specification.specs.Elements.{numbers_in}
use Rattle.element_numbers.proofs.Copying.{run_more, one_more, past-end, before-end}
use Rattle.element_numbers.proofs.places.add_numbers.Goals as goal

pub runs-preserved : goal.runs-preserved
runs-preserved c =
    let names = c.args.names.now in
    let w = c.args.response.now in
    record {
      within = omega (arith, c.runs.invariant.within, c.in_ok-run.ensures.within, length-drop c.runs.i w);
      numbers =
          c.in_ok-run.ensures.numbers
          ∙ ap (λ l. l ++ numbers_in names (take c.in_ok-run.run' (drop c.runs.i w))) c.runs.invariant.numbers
          ∙ append_assoc c.args.items.now.items (numbers_in names (take c.runs.i w))
          (numbers_in names (take c.in_ok-run.run' (drop c.runs.i w)))
          ∙ ap (λ l. c.args.items.now.items ++ l) (run_more names w c.runs.i c.in_ok-run.run');
    }

pub runs-preserved-in-Some : goal.runs-preserved-in-Some
runs-preserved-in-Some c =
    let names = c.args.names.now in
    let w = c.args.response.now in
    let n : ℕ = c.runs.i + c.in_ok-run.run' in
    let number : ℕ = c.in-Some.number in
    record {
      within = omega (arith, before-end names w n number (sym c.in-Some.ensures));
      numbers = c.in_ok-push.ensures.items
          ∙ ap (λ l. l ++ number ∷ []) (c.in_ok-run.ensures.numbers
          ∙ ap (λ l. l ++ numbers_in names (take c.in_ok-run.run' (drop c.runs.i w)))
          c.runs.invariant.numbers
          ∙ append_assoc c.args.items.now.items (numbers_in names (take c.runs.i w))
          (numbers_in names (take c.in_ok-run.run' (drop c.runs.i w)))
          ∙ ap (λ l. c.args.items.now.items ++ l) (run_more names w c.runs.i c.in_ok-run.run'))
          ∙ append_assoc c.args.items.now.items (numbers_in names (take n w)) (number ∷ [])
          ∙ ap (λ l. c.args.items.now.items ++ l) (one_more names w n number (sym c.in-Some.ensures));
    }

pub runs-smaller : goal.runs-smaller
runs-smaller c =
    omega (
      arith,
      c.runs-test.true,
      c.len.ensures.value,
      past-end c.args.names.now c.args.response.now
          (c.runs.i + c.in_ok-run.run') (sym c.in_default.is ∙ c.number_at.ensures),
    )
