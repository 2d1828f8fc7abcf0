-- Both go on alike for a run, and one place of the other is passed, if one is left.
use Rattle.std.proofs.Common.{arith}
use Rattle.contents_check.proofs.CoverSteps.{goes_on_alike, passes, run-within}
use Rattle.contents_check.proofs.covered.stands_in.Goals as goal

pub runs-preserved-then-j-len : goal.runs-preserved-then-j-len
runs-preserved-then-j-len c = record {
  within = run-within _ _ _ c.runs.invariant.within c.same_names-run.ensures.within.0;
  other_within = omega (arith, c.if-j-len.true, c.len-in-runs-4.ensures.value);
  rest = λ h. c.runs.invariant.rest (passes _ _ c.runs.found c.runs.j _ c.same_names-run.ensures.same h);
}

pub runs-preserved : goal.runs-preserved
runs-preserved c = record {
  within = run-within _ _ _ c.runs.invariant.within c.same_names-run.ensures.within.0;
  other_within = run-within _ _ _ c.runs.invariant.other_within c.same_names-run.ensures.within.1;
  rest = λ h. c.runs.invariant.rest
      (goes_on_alike _ _ c.runs.found c.runs.j _ c.same_names-run.ensures.same h);
}
