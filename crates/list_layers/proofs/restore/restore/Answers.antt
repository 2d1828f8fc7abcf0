use Rattle.std.proofs.Common.{◌≡◌, ℕ, List, [], Vec, Global, map, get_or, length}
use Rattle.std.proofs.Common.{sym, subst, ◌∙◌, arith}
use Rattle.std.specs.Prelude.{Contains}
use Rattle.std.proofs.lemmas.List.{get_or-map, get_or_default}
use Rattle.list_search.specs.Graph.{graph_of}
use Rattle.list_layers.proofs.Restoring.{set_back}
use Rattle.list_layers.proofs.restore.restore.Goals as goal

pub forget_all-requires : goal.forget_all-requires
forget_all-requires c = λ k d lt i e inside.
    let layers : List (List ℕ) = map (λ (layer : Vec ℕ Global). layer.items) c.args.layers.now in
    let here : Vec ℕ Global = get_or c.args.layers.now k d in
    let x : ℕ = get_or here.items i e in
    let kept : get_or layers k [] ≡ here.items =
    get_or-map (λ (layer : Vec ℕ Global). layer.items) c.args.layers.now k d [] lt in
    let there : Contains here.items x = (i, inside, get_or_default here.items i x e inside) in
    let known = (c.requires.1.sound k x lt (subst (λ l. Contains l x) (sym kept) there)).0 in
    omega (arith, known, c.requires.1.good.fits.seen)

pub returns : goal.returns
returns c =
    let walked = c.requires.1 in
    let layers : List (List ℕ) = map (λ (layer : Vec ℕ Global). layer.items) c.args.layers.now in
    set_back (graph_of c.args.graph.now) c.requires.0 (length c.args.layers.now) layers c.args.state.now
    (record { marks = c.restore_layers.new.marks; seen = c.forget_all.new.seen; looked = c.args.state.now.looked })
    walked
    (record {
      marks = c.restore_layers.ensures.count ∙ walked.good.fits.marks;
      seen = c.forget_all.ensures.places ∙ walked.good.fits.seen;
    })
    c.forget_all.ensures.seen c.restore_layers.ensures.restored
