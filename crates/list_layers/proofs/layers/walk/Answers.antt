use Rattle.std.proofs.Common.{◌≡◌, ℕ, ◌+◌, ◌-◌, ◌<◌, ◌≤◌, List, [], ◌∷◌, ◌++◌, Vec, Global, map, get_or, length}
use Rattle.std.proofs.Common.{inl, inr, refl, sym, ap, subst, ◌∙◌, arith}
use Rattle.std.proofs.lemmas.List.{get_or-map, length-map, map-append}
use Rattle.order_graph.specs.Lists.{lists_of}
use Rattle.list_search.specs.Graph.{Graph, graph_of}
use Rattle.list_layers.specs.declared.state.State.{State}
use Rattle.list_layers.specs.Progress.{IsNextLayer, StandsIn}
use Rattle.list_layers.specs.Walked.{IsWalked}
use Rattle.list_layers.proofs.Walking.{walked_more, walked_one}
use Rattle.list_layers.proofs.layers.walk.Goals as goal

pub loop-d-init : goal.loop-d-init
loop-d-init c =
    let b : State = record {
      marks = c.args.state.now.marks;
      seen = c.first_layer.new.seen;
      looked = c.args.state.now.looked;
    } in
    record {
      marks = refl;
      seen = c.first_layer.ensures.places;
      walked = walked_one (graph_of c.args.graph.now) c.args.source
          (map (λ (layer : Vec ℕ Global). layer.items) c.in_ok-layers.layers.items) c.args.state.now b
          c.requires.clean c.requires.known c.in_ok-layers.ensures.layers refl
          c.in_ok-layers.ensures.seen;
    }

pub loop-d-preserved : goal.loop-d-preserved
loop-d-preserved c =
    let g : Graph = graph_of c.args.graph.now in
    let rows = lists_of c.args.graph.now in
    let items : Vec ℕ Global → List ℕ = λ (layer : Vec ℕ Global). layer.items in
    let layers : List (List ℕ) = map items c.loop-d.layers.items in
    let d : ℕ = c.loop-d.d in
    let inv = c.loop-d.invariant in
    let next : List ℕ = c.in_ok-next.next.items in
    let a : State = c.loop-d.state in
    let b : State = c.next_layer.new.state in
    let after = c.in_ok-next.ensures in
    let low : 1 ≤ d = omega arith in
    let size : length layers ≡ length c.loop-d.layers.items = length-map c.loop-d.layers.items items in
    let inside : d - 1 < length c.loop-d.layers.items = omega (arith, size, inv.walked.count, low) in
    let item : Vec ℕ Global = c.index.result.now in
    let found : item ≡ get_or c.loop-d.layers.items (d - 1) item = c.index.ensures in
    let is : c.as_slice.result.now ≡ get_or layers (d - 1) [] =
    c.as_slice.ensures.value ∙ ap items found ∙ sym (get_or-map items c.loop-d.layers.items (d - 1) item [] inside) in
    let pushed : map items c.push.new.self.items ≡ layers ++ next ∷ [] =
    ap (map items) c.in_ok-push.ensures.items
    ∙ map-append items c.loop-d.layers.items (c.in_ok-next.next ∷ []) in
    record {
      marks = after.marks ∙ inv.marks;
      seen = after.seen ∙ inv.seen;
      walked =
          subst (λ ls. IsWalked g c.args.source (d + 1) ls b) (sym pushed)
          (walked_more g c.args.source d layers next a b low inv.walked after.good
          (subst (λ l. IsNextLayer rows c.args.source l a.seen.items b.seen.items next) is after.next)
          (λ l. elim (after.touched l) [
            | inl same ↦ inl same
            | inr by ↦ inr (subst (λ k. StandsIn rows k l) is by)
          ]));
    }

pub returns-clause-walked : goal.returns-clause-walked
returns-clause-walked c =
    let done : c.loop-d.d ≡ c.args.count = omega (arith, c.loop-d-test.false, c.requires.some) in
    subst (λ n. IsWalked (graph_of c.args.graph.now) c.args.source n
    (map (λ (layer : Vec ℕ Global). layer.items) c.loop-d.layers.items) c.loop-d.state) done
    c.loop-d.invariant.walked
