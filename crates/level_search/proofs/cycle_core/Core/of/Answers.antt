-- The elements through which a cycle leads are the core, and each stands at a place.
use Rattle.std.proofs.Common.{ℕ, List, rules}
use Rattle.std.specs.Prelude.{Contains}
use Rattle.specification.specs.Responses.{Responses}
use Rattle.specification.proofs.Members.{All-member, In-from_Contains}
use Rattle.order_graph.specs.Lists.{lists_of}
use Rattle.level_search.specs.Cores.{IsPlaced, LiesOnCycle}
use Rattle.level_search.proofs.OnCycles.{lies-placed}
use Rattle.level_search.proofs.Cores.{core_of}
use Rattle.level_search.proofs.Placed.{placed-few}
use Rattle.level_search.proofs.cycle_core.Core.of.Goals as goal

pub returns : goal.returns
returns c =
    let v : Responses = c.args.graph.now in
    let left : List ℕ = c.in_ok-elements.elements.items in
    let found = c.in_ok-elements.ensures in
    let proper = c.elements.ensures.proper in
    let placed : (x : ℕ) → Contains left x → IsPlaced (lists_of v) x = λ x here.
    lies-placed v proper x
    (All-member (LiesOnCycle v) left x found.on_cycles (In-from_Contains left x here)) in
    record {
      elements = core_of v proper left found.rising found.known found.on_cycles found.whole;
      graph = search rules;
      few = (found.few, placed-few v left found.rising placed);
      thin = c.in_ok-fewer.ensures;
    }
