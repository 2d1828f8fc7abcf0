use Rattle.std.proofs.Common.{ℕ, List, subst, sym}
use Rattle.bit_tables.specs.Rule.{HaveDepths}
use Rattle.list_rule.proofs.tests.are_deep.Goals as goal

pub are_deep-requires-clause-noted : goal.are_deep-requires-clause-noted
are_deep-requires-clause-noted c =
    subst (λ (l : List ℕ). HaveDepths c.args.depths.now c.args.count l)
    (sym c.deref.ensures.value) c.in_ok-noted.ensures
