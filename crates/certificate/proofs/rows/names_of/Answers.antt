use Rattle.std.proofs.Common.{◌≡◌, ℕ, Some, List, [], get_or, sym, ◌∙◌, arith}
use Rattle.std.specs.Prelude.{slice_get}
use Rattle.std.proofs.lemmas.Option.{get_or_from_slice_get}
use Rattle.events.specs.Names.{NameBytes}
use Rattle.certificate.proofs.Copies.{mapped_more}
use Rattle.certificate.proofs.rows.names_of.Goals as goal

pub loop-x-preserved : goal.loop-x-preserved
loop-x-preserved c =
    let elements : List NameBytes = c.args.graph.now.elements in
    let x : ℕ = get_or c.args.numbers.now c.loop-x.x-index 0 in
    let a : NameBytes = c.in-Some.name in
    let at : slice_get elements x ≡ Some a = sym c.name.ensures ∙ c.in-Some.is in
    mapped_more (λ x. get_or elements x []) c.args.numbers.now c.loop-x.names.items c.push.new.self.items
    c.loop-x.x-index 0 a (omega arith)
    (get_or_from_slice_get elements x a [] at) c.loop-x.invariant c.in_ok-push.ensures.items
