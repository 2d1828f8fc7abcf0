-- The distances from the element over lists that go the other way are those to it.
use Rattle.std.proofs.Common.{ℕ, ◌+◌, ◌≤◌, List, length, map, ◌∙◌, ap, subst, sym}
use Rattle.std.specs.Prelude.{reverse}
use Rattle.specification.specs.Responses.{Responses, place_count}
use Rattle.order_graph.specs.Lists.{lists_of}
use Rattle.order_graph.proofs.Turned.{lists_turned}
use Rattle.list_search.specs.Clean.{IsReady}
use Rattle.list_search.specs.Distances.{AreDistances}
use Rattle.list_search.proofs.Turning.{distances_turned}
use Rattle.level_search.specs.Rounds.{FitsDepths}
use Rattle.level_search.proofs.Rounds.{places-turned, ready-turned, ready_turned-from}
use Rattle.level_search.proofs.cycles.distances.Distances.find_to.Goals as goal

pub find-requires-clause-ready : goal.find-requires-clause-ready
find-requires-clause-ready c =
    subst (IsReady c.args.self.now.scratch) (sym c.requires.fits.turned_is)
    (ready-turned c.args.self.now.scratch c.args.graph.now c.requires.fits.scratch)

pub returns-clause-to : goal.returns-clause-to
returns-clause-to c =
    let v : Responses = c.args.graph.now in
    let depths : List ℕ = c.find.new.self.depths.items in
    let there : AreDistances (map reverse (lists_of v)) c.args.element c.args.limit depths =
    subst (λ (rows : List (List ℕ)). AreDistances rows c.args.element c.args.limit depths)
    (ap lists_of c.requires.fits.turned_is ∙ lists_turned v) c.find.ensures.depths in
    distances_turned (lists_of v) c.args.element c.args.limit depths there

pub returns-clause-fits : goal.returns-clause-fits
returns-clause-fits c = record {
  turned_is = c.requires.fits.turned_is;
  scratch =
      ready_turned-from c.find.new.scratch c.args.graph.now
      (subst (IsReady c.find.new.scratch) c.requires.fits.turned_is c.find.ensures.ready);
  to = subst (λ n. FitsDepths n c.args.limit c.find.new.self)
      (ap (λ (w : Responses). length w.elements) c.requires.fits.turned_is) c.find.ensures.fits;
  from = c.requires.fits.from;
}

pub returns-clause-looked : goal.returns-clause-looked
returns-clause-looked c =
    subst (λ n. c.find.new.looked ≤ c.args.looked.now + n)
    (ap (λ (w : Responses). place_count w + length w.elements) c.requires.fits.turned_is
    ∙ places-turned c.args.graph.now)
    c.find.ensures.looked
