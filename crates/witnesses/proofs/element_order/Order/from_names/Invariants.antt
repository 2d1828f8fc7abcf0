use Rattle.std.proofs.Common.{ℕ, ◌<◌, get_or, List}
use Rattle.events.specs.Names.{IsName}
use Rattle.witnesses.proofs.element_order.Order.from_names.Given as goal

abbrev pub invariant-loop-name : goal.invariant-loop-name
invariant-loop-name l = (k : ℕ) (d : List ℕ) → k < l.name-index → IsName (get_or l.name-items k d)
