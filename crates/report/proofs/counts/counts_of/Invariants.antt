use Rattle.std.proofs.Common.{◌≡◌, ◌*◌, ◌≤◌, ℕ, length}
use Rattle.std.specs.Prelude.{flat_map}
use Rattle.events.specs.Operations.{count, numbers_from}
use Rattle.events.specs.declared.TheConstants.{MOST_ENTRIES}
use Rattle.contents_check.specs.Covering.{first_operations}
use Rattle.report.specs.Counts.{inserted_by}
use Rattle.report.proofs.counts.counts_of.Given as goal

abbrev pub invariant-loop-r : goal.invariant-loop-r
invariant-loop-r l = record {
  operations : l.operations
      ≡ length (flat_map (λ (q : ℕ). first_operations q (count l.recording q)) (numbers_from 0 l.r));
  inserts : l.inserts
      ≡ length
      (inserted_by l.recording
      (flat_map (λ (q : ℕ). first_operations q (count l.recording q)) (numbers_from 0 l.r)));
  few : l.operations ≤ l.r * MOST_ENTRIES;
  fewer : l.inserts ≤ l.operations;
}
