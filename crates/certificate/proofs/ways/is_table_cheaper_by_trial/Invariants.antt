use Rattle.std.proofs.Common.{◌≡◌}
use Rattle.certificate.proofs.ways.is_table_cheaper_by_trial.Given as goal

abbrev pub invariant-loop-i : goal.invariant-loop-i
invariant-loop-i l = l.lists.graph ≡ l.part
