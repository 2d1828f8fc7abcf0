-- A search under a bound above all lengths tells.
use Rattle.std.proofs.Common.{◌≡◌, ◌<◌, Bool, true, length, subst, sym, arith}
use Rattle.std.specs.Prelude.{◌↔◌}
use Rattle.specification.specs.Responses.{Responses}
use Rattle.level_search.specs.Cores.{LiesOnCycle}
use Rattle.level_search.proofs.OnCycles.{found-lies}
use Rattle.level_search.proofs.components.is_on_cycle.Goals as goal

pub returns-clause-answer : goal.returns-clause-answer
returns-clause-answer c =
    let v : Responses = c.args.graph.now in
    let search = c.search.ensures in
    let low : length v.elements < c.search.new.bound.least =
    omega (arith, c.elements.ensures.proper.few, search.reads) in
    subst (λ (b : Bool). (b ≡ true) ↔ LiesOnCycle v c.args.x) (sym c.is_some.ensures)
    (found-lies v c.args.x (length v.elements) c.search.new.bound.least c.search.result low search.answer
    search.none)
