use Rattle.std.proofs.Common.{◌+◌, inl, inr, refl, arith}
use Rattle.list_search.specs.Graph.{graph_of}
use Rattle.list_search.proofs.Layers.{cycle_found, cycle_long, layered_next, no_cycle}
use Rattle.list_search.proofs.Levelled.{nothing_left}
use Rattle.list_search.proofs.searching.levels.search_on.Goals as goal

-- the bound is not above the least length that is left
pub returns-then-least-level-clause-answer : goal.returns-then-least-level-clause-answer
returns-then-least-level-clause-answer g c = λ n cycle.
    let long =
    cycle_long (graph_of c.args.graph.now) c.args.element c.levels.head c.levels.level c.levels.state
    c.levels.invariant.layered n cycle in
    let last = c.best-least.ensures.answer in
    omega (arith, last)

pub returns-then-state-clause-answer : goal.returns-then-state-clause-answer
returns-then-state-clause-answer g c =
    let layered = c.levels.invariant.layered in
    let last = c.best-least.ensures.answer in (
      record {
        cycle = cycle_found (graph_of c.args.graph.now) c.args.element c.levels.head c.levels.level
            c.levels.state c.layer.new.state layered c.layer.ensures.grows c.if-state.true;
        shortest =
            λ n cycle. cycle_long (graph_of c.args.graph.now) c.args.element c.levels.head c.levels.level
            c.levels.state layered n cycle;
      },
      omega (arith, last),
    )

pub levels-preserved : goal.levels-preserved
levels-preserved g c =
    let before = c.levels.invariant in
    let after = c.layer.ensures in
    let last = c.best-least.ensures.answer in
    let falls = c.best-least.ensures.falls in
    record {
      layered =
          layered_next (graph_of c.args.graph.now) c.args.element c.levels.head c.levels.level c.levels.state
          c.layer.new.state before.layered c.levels-test.true
          after.good after.grows after.expanded c.if-state.false;
      fits = omega (arith, last);
      bound = omega (arith, last, falls, before.bound);
      reads = g.met.B.BoundSource.reads_more _ _ _ before.reads c.best-least.ensures.reads;
      times = g.met.B.BoundSource.times_more _ _ _ _ _ before.times c.best-least.ensures.times;
      cost = let h = after.cost in let k = before.cost in omega arith;
      work = λ more. let one = after.works.reach more in let low = before.work c.levels-test.true in
          omega arith;
      begun = λ none. absurd (omega arith);
      expanded = λ _. let one = after.works.forward in omega arith;
    }

pub returns-clause-answer : goal.returns-clause-answer
returns-clause-answer g c = λ n cycle.
    absurd (no_cycle (graph_of c.args.graph.now) c.args.element c.levels.head c.levels.level c.levels.state
    c.levels.invariant.layered c.levels-test.false n cycle)

pub returns-clause-none : goal.returns-clause-none
returns-clause-none g c = λ few n cycle.
    no_cycle (graph_of c.args.graph.now) c.args.element c.levels.head c.levels.level c.levels.state
    c.levels.invariant.layered c.levels-test.false n cycle

-- it was read once more than there are layers so far
pub returns-then-least-level-clause-times : goal.returns-then-least-level-clause-times
returns-then-least-level-clause-times g c =
    let last = c.best-least.ensures.answer in
    let low = c.if-least-level.true in (
      c.levels.level + 1,
      g.met.B.BoundSource.times_more _ _ _ _ _ c.levels.invariant.times c.best-least.ensures.times,
      inl (omega (arith, last, low)),
    )

pub returns-then-state-clause-times : goal.returns-then-state-clause-times
returns-then-state-clause-times g c = (
  c.levels.level + 1,
  g.met.B.BoundSource.times_more _ _ _ _ _ c.levels.invariant.times c.best-least.ensures.times,
  refl,
)

pub returns-clause-times : goal.returns-clause-times
returns-clause-times g c = (
  c.levels.level,
  c.levels.invariant.times,
  inr (nothing_left (graph_of c.args.graph.now) c.args.element c.levels.head c.levels.level c.levels.state
      c.levels.invariant.layered.levelled c.levels-test.false),
)
