-- One replica more begins.
use Rattle.std.proofs.Common.{◌≡◌, ◌<◌, ◌++◌, ◌∷◌, [], ℕ, ◌+◌, List, length, take, sym, ◌∙◌, ap, subst, arith}
use Rattle.std.proofs.lemmas.List.{take_all, take_more}
use Rattle.contents_check.specs.declared.turns.OnTheWay.{OnTheWay}
use Rattle.contents_check.specs.Turns.{AreOnTheWay}
use Rattle.contents_check.proofs.InTurns.{none_yet, one_more}
use Rattle.contents_check.proofs.turns.begin_all.Goals as goal

pub loop-r-init : goal.loop-r-init
loop-r-init c =
    λ h table. subst (λ (l : List OnTheWay). AreOnTheWay h table c.args.elements.now [] l)
    (sym c.in_ok-ways.ensures.items) (none_yet h table c.args.elements.now)

pub loop-r-preserved : goal.loop-r-preserved
loop-r-preserved c = λ h table.
    let elements = c.args.elements.now in
    let all : List ℕ = c.args.replicas.now in
    let k : ℕ = c.loop-r.r-index in
    let within : k < length all = omega (arith, c.loop-r-test.true) in
    let way = c.in_ok-new.field-0 in
    let front : take k all ++ way.replica ∷ [] ≡ take (k + 1) all =
    ap (λ (r : ℕ). take k all ++ r ∷ []) c.in_ok-new.ensures.replica ∙ sym (take_more all k 0 within) in
    subst (λ (l : List OnTheWay). AreOnTheWay h table elements (take (k + 1) all) l)
    (sym c.in_ok-push.ensures.items)
    (subst (λ (l : List ℕ). AreOnTheWay h table elements l (c.loop-r.ways.items ++ way ∷ [])) front
    (one_more h table elements (take k all) c.loop-r.ways.items way (c.loop-r.invariant h table)
    (c.in_ok-new.ensures.on_the_way h table)))

pub returns : goal.returns
returns c = λ h table.
    let all : List ℕ = c.args.replicas.now in
    subst (λ (l : List ℕ). AreOnTheWay h table c.args.elements.now l c.loop-r.ways.items)
    (take_all c.loop-r.r-index all (omega (arith, c.loop-r-test.false))) (c.loop-r.invariant h table)
