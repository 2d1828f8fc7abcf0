-- The elements of shortest cycles through the element are those between, and the element itself.
use Rattle.std.proofs.Common.{ℕ, ◌<◌, ◌≤◌, length, get_or, sym, subst, arith, inl, inr}
use Rattle.specification.specs.Responses.{Responses}
use Rattle.order_graph.specs.Lists.{lists_of}
use Rattle.list_search.specs.Distances.{IsDistanceBelow}
use Rattle.list_search.specs.Rings.{IsDistanceTo}
use Rattle.list_search.specs.Walks.{HasCycle}
use Rattle.list_search.proofs.Joining.{cycle-known}
use Rattle.level_search.specs.declared.cycles.distances.Depths.{Depths}
use Rattle.level_search.proofs.Rounds.{between-cycle, round-between, round-cycle}
use Rattle.level_search.proofs.cycles.first.least_round.Goals.{After-first_between}
use Rattle.level_search.proofs.cycles.first.least_round.Goals as goal

away : (c : After-first_between) → (x : ℕ) → x < length c.args.graph.now.elements
    → IsDistanceBelow (lists_of c.args.graph.now) c.args.element c.args.k x
    (get_or c.find_from.new.self.from.depths.items x 0)
away c x known =
    c.find_from.ensures.from x
    (omega (arith, c.find_from.ensures.fits.from.depths, c.find_from.new.self.from.depths.ok, known))

back : (c : After-first_between) → (x : ℕ) → x < length c.args.graph.now.elements
    → IsDistanceTo (lists_of c.args.graph.now) c.args.element c.args.k x
    (get_or c.find_from.new.self.to.depths.items x 0)
back c x known =
    subst (λ (d : Depths). IsDistanceTo (lists_of c.args.graph.now) c.args.element c.args.k x
    (get_or d.depths.items x 0))
    (sym c.find_from.ensures.to)
    (c.find_to.ensures.to x
    (omega (arith, c.find_to.ensures.fits.to.depths, c.find_to.new.self.to.depths.ok, known)))

pub returns-clause-cycle : goal.returns-clause-cycle
returns-clause-cycle c =
    let v : Responses = c.args.graph.now in
    let at = (goal.at.returns-clause-cycle c).After-first_between in
    let x : ℕ = c.first_between.result in
    let falls = c.first_between.ensures.falls in
    let known : x < length v.elements = omega (arith, falls, c.requires.known) in
    elim c.first_between.ensures.found as (λ _. HasCycle (lists_of v) x c.args.k) [
      | inl same ↦ subst (λ i. HasCycle (lists_of v) i c.args.k) (sym same) c.requires.cycle
      | inr between ↦
          between-cycle (lists_of v) c.args.element c.args.k c.find_from.new.self.to.depths.items c.find_from.new.self.from.depths.items x
          (away at x known) (back at x known) between
    ]

pub returns-clause-least : goal.returns-clause-least
returns-clause-least c = λ t round.
    let v : Responses = c.args.graph.now in
    let at = (goal.at.returns-clause-least c).After-first_between in
    let cycle : HasCycle (lists_of v) t c.args.k =
    round-cycle (lists_of v) c.args.element c.args.k t (c.requires.cycle.0) round in
    let known = cycle-known v c.elements.ensures.proper t c.args.k cycle in
    let falls = c.first_between.ensures.falls in
    elim (round-between (lists_of v) c.args.element c.args.k c.find_from.new.self.to.depths.items c.find_from.new.self.from.depths.items t
    c.requires.shortest (away at t known) (back at t known) round)
    as (λ _. c.first_between.result ≤ t) [
      | inl same ↦ omega (arith, falls, same)
      | inr between ↦ c.first_between.ensures.least t between
    ]
