-- No edge leads anywhere.
use Rattle.std.proofs.Common.{◌≡◌, ℕ, List, [], replicate, sym, subst}
use Rattle.witness_order.specs.declared.successors.Edge.{Edge}
use Rattle.witness_order.specs.Edges.{AreLinked}
use Rattle.witness_order.proofs.Linked.{linked-empty}
use Rattle.witness_order.proofs.successors.without_edges.Goals as goal

pub returns-clause-kept : goal.returns-clause-kept
returns-clause-kept c =
    let n : ℕ = c.args.elements in
    let edges : List Edge = c.in_ok-with_capacity.field-0.items in
    let heads : List ℕ = c.in_ok-from_elem.field-0.items in
    let indegrees : List ℕ = c.in_ok-from_elem-2.field-0.items in
    let none : heads ≡ replicate n 0 = c.in_ok-from_elem.ensures.items_if_clones_equal (λ y e. e) in
    let zero : indegrees ≡ replicate n 0 = c.in_ok-from_elem-2.ensures.items_if_clones_equal (λ y e. e) in
    subst (λ (l : List Edge). AreLinked l heads indegrees) (sym c.in_ok-with_capacity.ensures.items)
    (subst (λ l. AreLinked [] l indegrees) (sym none)
    (subst (λ l. AreLinked [] (replicate n 0) l) (sym zero) (linked-empty n)))
