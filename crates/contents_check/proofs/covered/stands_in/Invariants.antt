use Rattle.std.proofs.Common.{◌-◌, ◌≤◌, drop, length}
use Rattle.specification.specs.Orders.{IsSubsequence}
use Rattle.contents_check.proofs.covered.stands_in.Given as goal

-- what is left of the response is in what is left of the other only where the whole is in the whole
abbrev pub invariant-runs : goal.invariant-runs
invariant-runs l = record {
  within : l.found ≤ length l.response;
  other_within : l.j ≤ length l.other;
  rest : IsSubsequence (drop l.found l.response) (drop l.j l.other) → IsSubsequence l.response l.other;
}

abbrev pub decreases-runs : goal.decreases-runs
decreases-runs l = length l.other - l.j
