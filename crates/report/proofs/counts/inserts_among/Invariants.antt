use Rattle.std.proofs.Common.{◌≡◌, ◌≤◌, length}
use Rattle.contents_check.specs.Covering.{first_operations}
use Rattle.report.specs.Counts.{inserted_by}
use Rattle.report.proofs.counts.inserts_among.Given as goal

abbrev pub invariant-loop-i : goal.invariant-loop-i
invariant-loop-i l = record {
  counted : l.inserts ≡ length (inserted_by l.recording (first_operations l.r l.i));
  few : l.inserts ≤ l.i;
}
