use Rattle.std.proofs.Common.{ℕ, ◌+◌, ◌<◌, ◌≤◌, slice_index}
use Rattle.element_numbers.specs.Cuts.{rows_of}
use Rattle.list_rule.specs.Judging.{IsJudging, IsRightNumber, asked}
use Rattle.list_rule.proofs.passing.pass_row.Given as goal

abbrev pub invariant-loop-x : goal.invariant-loop-x
invariant-loop-x l = record {
  judging : IsJudging (asked (rows_of l.places) l.depths l.most l.first l.source) l.spots (l.last + 1)
      l.state;
  right : (i : ℕ) → i < l.x-index → l.first ≤ slice_index l.noted i
      → IsRightNumber (asked (rows_of l.places) l.depths l.most l.first l.source) l.spots
      (slice_index l.noted i);
}
