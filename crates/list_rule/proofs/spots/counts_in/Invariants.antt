use Rattle.std.proofs.Common.{◌≡◌, vec_len}
use Rattle.list_rule.proofs.spots.counts_in.Given as goal

abbrev pub invariant-loop-list : goal.invariant-loop-list
invariant-loop-list l = vec_len l.counts ≡ l.n

abbrev pub invariant-loop-x : goal.invariant-loop-x
invariant-loop-x l = vec_len l.counts ≡ l.n
