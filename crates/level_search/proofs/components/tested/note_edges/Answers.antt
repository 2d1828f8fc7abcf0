-- One edge more, along which the components don't fall.
use Rattle.std.proofs.Common.{◌≡◌, ℕ, ◌<◌, ◌≤◌, inl, inr, length, sym, subst, arith}
use Rattle.order_graph.specs.Lists.{lists_of}
use Rattle.witness_order.specs.declared.successors.Edge.{Edge}
use Rattle.level_search.specs.StrongComponents.{rank}
use Rattle.level_search.proofs.EdgeWalks.{edge-known, edge-neighbours, first-left, left-cases, neighbours-edge}
use Rattle.level_search.proofs.EdgeWalks.{next-falls, none-left, rest-left}
use Rattle.level_search.proofs.components.tested.note_edges.Goals as goal

pub note_edge-requires-clause-known : goal.note_edge-requires-clause-known
note_edge-requires-clause-known c =
    let n : ℕ = length c.args.graph.now.elements in
    let k : ℕ = c.loop-number.number in
    let e : Edge = c.index-edge.result.now in
    let inv = c.loop-number.invariant in
    let some : 0 < k = omega (arith, c.loop-number-test.true) in (
      c.requires.known,
      edge-known (lists_of c.args.graph.now) n c.args.successors.now c.requires.edges c.args.x e.to
          (inv.left e.to
          (first-left (lists_of c.args.graph.now) n c.args.successors.now c.requires.edges k e
          c.index-edge.ensures some inv.within)),
    )

pub note_edge-requires-clause-edge : goal.note_edge-requires-clause-edge
note_edge-requires-clause-edge c =
    let n : ℕ = length c.args.graph.now.elements in
    let k : ℕ = c.loop-number.number in
    let e : Edge = c.index-edge.result.now in
    let inv = c.loop-number.invariant in
    let some : 0 < k = omega (arith, c.loop-number-test.true) in
    edge-neighbours (lists_of c.args.graph.now) n c.args.successors.now c.requires.edges c.args.x e.to
    (inv.left e.to
    (first-left (lists_of c.args.graph.now) n c.args.successors.now c.requires.edges k e c.index-edge.ensures
    some inv.within))

pub loop-number-preserved : goal.loop-number-preserved
loop-number-preserved c =
    let rows = (lists_of c.args.graph.now) in
    let n : ℕ = length c.args.graph.now.elements in
    let k : ℕ = c.loop-number.number in
    let e : Edge = c.index-edge.result.now in
    let inv = c.loop-number.invariant in
    let some : 0 < k = omega (arith, c.loop-number-test.true) in
    let falls : e.next < k =
    next-falls rows n c.args.successors.now c.requires.edges k e c.index-edge.ensures some inv.within in
    record {
      within = omega (arith, falls, inv.within);
      fits = c.note_edge.ensures.fits;
      links = c.note_edge.ensures.links;
      left = λ y h. inv.left y
          (rest-left rows n c.args.successors.now c.requires.edges k e c.index-edge.ensures some inv.within y
          h);
      climbs = λ y h. elim (inv.climbs y h) [
        | inl later ↦ elim (left-cases rows n c.args.successors.now c.requires.edges k e c.index-edge.ensures
            some inv.within y later) [
              | inl same ↦
                  inr (subst (λ z. rank c.args.guess.now c.args.x ≤ rank c.args.guess.now z) (sym same)
                  (c.note_edge.ensures.climbs c.if-not-note_edge.false))
              | inr rest ↦ inl rest
            ]
        | inr done ↦ inr done
      ];
    }

pub returns-clause-climbs : goal.returns-clause-climbs
returns-clause-climbs c = λ true_is y two.
    let rows = (lists_of c.args.graph.now) in
    let n : ℕ = length c.args.graph.now.elements in
    let k : ℕ = c.loop-number.number in
    let end : k ≡ 0 = omega (arith, c.loop-number-test.false) in
    elim (c.loop-number.invariant.climbs y
    (neighbours-edge rows n c.args.successors.now c.requires.edges c.args.x y two)) [
      | inl left ↦ absurd (none-left rows n c.args.successors.now c.requires.edges k y end left)
      | inr done ↦ done
    ]
