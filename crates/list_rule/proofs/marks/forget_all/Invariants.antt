use Rattle.std.proofs.Common.{◌≡◌, ℕ, ◌<◌}
use Rattle.list_rule.specs.Marks.{mark_at}
use Rattle.list_rule.proofs.marks.forget_all.Given as goal

abbrev pub invariant-loop-mark : goal.invariant-loop-mark
invariant-loop-mark l = (i : ℕ) → i < l.mark-index → (mark_at l.marks i).row ≡ 0
