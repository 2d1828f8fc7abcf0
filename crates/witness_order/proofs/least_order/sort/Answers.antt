-- The whole slice is as long as the vector.
use Rattle.std.proofs.Common.{arith}
use Rattle.std.proofs.lemmas.Bool.{false≢true}
use Rattle.witness_order.proofs.least_order.sort.Goals as goal

pub returns-then-not-are_all_taken : goal.returns-then-not-are_all_taken
returns-then-not-are_all_taken c = (
  c.in_ok-taken.ensures.taken.some
      (λ e. false≢true
      (c.if-not-are_all_taken.ensures.1 (omega (arith, c.as_slice.ensures.len, c.in_ok-taken.taken.ok)))),
  c.in_ok-taken.ensures.edges,
)
