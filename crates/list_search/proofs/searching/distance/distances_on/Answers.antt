use Rattle.std.proofs.Common.{ℕ, ◌≡◌, ◌<◌, ◌≤◌, ◌⊎◌, ◌+◌, slice_index, subst, arith}
use Rattle.list_search.specs.Distances.{IsAmong}
use Rattle.list_search.specs.Graph.{Graph, graph_of}
use Rattle.list_search.proofs.Levelled.{IsLevelled, levelled_next}
use Rattle.list_search.proofs.Depths.{noted_next, noted-limit, noted-all, reached_next}
use Rattle.list_search.proofs.searching.distance.distances_on.Goals as goal

pub levels-preserved : goal.levels-preserved
levels-preserved c =
    let before = c.levels.invariant in
    let after = c.layer.ensures in
    let g : Graph = graph_of c.args.graph.now in
    let a = c.levels.state in
    let b = c.layer.new.state in
    let next : IsLevelled g c.args.element b a.tail (c.levels.level + 1) =
    levelled_next g c.args.element c.levels.head c.levels.level a b before.levelled c.levels-test.true
    after.good after.grows after.expanded in
    record {
      levelled = next;
      noted = noted_next g c.args.element c.args.limit a.tail c.levels.level a b c.levels.depths
          c.note_level-in-levels.new.depths next before.noted (omega arith) (omega arith)
          after.grows.kept (omega arith) c.note_level-in-levels.ensures.falls
          (subst (λ q. (k : ℕ) → a.tail ≤ k → k < b.tail
          → slice_index c.note_level-in-levels.new.depths (slice_index q k) ≤ c.levels.level + 1)
          c.as_slice-in-levels.ensures.value c.note_level-in-levels.ensures.noted)
          (subst (λ q. (x : ℕ)
          → (slice_index c.note_level-in-levels.new.depths x ≡ slice_index c.levels.depths x)
          ⊎ ((slice_index c.note_level-in-levels.new.depths x ≡ c.levels.level + 1)
          × IsAmong q a.tail b.tail x))
          c.as_slice-in-levels.ensures.value c.note_level-in-levels.ensures.others);
      fits = omega arith;
      cost = let h = after.cost in let k = before.cost in omega arith;
      begun = λ none. absurd (omega arith);
      expanded = λ _. let one = after.works.forward in omega arith;
      reached =
          reached_next c.args.limit (c.levels.level + 1) c.levels.depths c.note_level-in-levels.new.depths
          a.queue.items b.queue.items a.tail b.tail after.grows.kept (omega arith)
          before.reached (omega arith)
          (subst (λ q. (x : ℕ)
          → (slice_index c.note_level-in-levels.new.depths x ≡ slice_index c.levels.depths x)
          ⊎ ((slice_index c.note_level-in-levels.new.depths x ≡ c.levels.level + 1)
          × IsAmong q a.tail b.tail x))
          c.as_slice-in-levels.ensures.value c.note_level-in-levels.ensures.others);
    }

pub returns-then-limit-level-clause-distances : goal.returns-then-limit-level-clause-distances
returns-then-limit-level-clause-distances c =
    noted-limit (graph_of c.args.graph.now) c.args.element c.args.limit c.levels.level c.levels.state
    c.levels.depths c.levels.invariant.noted c.if-limit-level.true

pub returns-clause-distances : goal.returns-clause-distances
returns-clause-distances c =
    noted-all (graph_of c.args.graph.now) c.args.element c.args.limit c.levels.head c.levels.level
    c.levels.state c.levels.depths c.levels.invariant.levelled c.levels.invariant.noted
    c.levels-test.false
