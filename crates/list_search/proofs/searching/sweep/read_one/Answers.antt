use Rattle.std.proofs.Common.{◌≡◌, ℕ, true, get_or, sym, ◌∙◌, subst}
use Rattle.std.proofs.lemmas.Option.{slice_get-get_or}
use Rattle.order_graph.specs.Lists.{lists_of, row, Stands}
use Rattle.list_search.specs.Graph.{graph_of}
use Rattle.list_search.specs.Progress.{IsReached}
use Rattle.list_search.proofs.Growth.{grows_weaker}
use Rattle.list_search.proofs.Places.{read_stands, stands_read}
use Rattle.list_search.proofs.Reach.{good_grown}
use Rattle.list_search.proofs.searching.sweep.read_one.Goals as goal

pub returns-in-Some-clause-good : goal.returns-in-Some-clause-good
returns-in-Some-clause-good c =
    let done = c.visit.ensures in
    good_grown (graph_of c.args.graph.now) c.args.element c.in-Some.y c.args.state.now c.visit.new.self
    c.requires.good c.in-Some.ensures.known done.queued.0 done.queued.1 done.marks done.grows

pub returns-in-Some-clause-grows : goal.returns-in-Some-clause-grows
returns-in-Some-clause-grows c =
    let rows = lists_of c.args.graph.now in
    let y : ℕ = c.in-Some.y in
    let stands : Stands rows c.args.list c.args.j y =
    read_stands rows c.args.list c.args.j y c.requires.inside (sym c.in-Some.ensures.value) in
    grows_weaker (λ z. z ≡ y) (Stands rows c.args.list c.args.j) c.args.element c.args.state.now
    c.visit.new.self (λ z same. subst (Stands rows c.args.list c.args.j) (sym same) stands)
    c.visit.ensures.grows

pub returns-in-Some-clause-reached : goal.returns-in-Some-clause-reached
returns-in-Some-clause-reached c = λ x stands.
    let rows = lists_of c.args.graph.now in
    let same : x ≡ c.in-Some.y =
    stands_read rows c.args.list c.args.j x c.in-Some.y (sym c.in-Some.ensures.value) stands in
    subst (IsReached c.visit.new.self.queue.items c.visit.new.self.tail) (sym same) c.visit.ensures.reached

pub returns-in-Some-clause-missed : goal.returns-in-Some-clause-missed
returns-in-Some-clause-missed c = λ unfound stands.
    let rows = lists_of c.args.graph.now in
    let same : c.args.element ≡ c.in-Some.y =
    stands_read rows c.args.list c.args.j c.args.element c.in-Some.y
    (sym c.in-Some.ensures.value) stands in
    let found : c.visit.new.self.found ≡ true = c.visit.ensures.found (sym same) in
    cc

-- there is an element at each place of a list
there : (c : goal.In_default) → ⊥
there c =
    let r = row (lists_of c.args.graph.now) c.args.list in
    c.in_default.not-Some (get_or r c.args.j 0) (c.place.ensures.value
    ∙ slice_get-get_or r c.args.j 0 c.requires.inside)

pub returns-in_default-clause-reached : goal.returns-in_default-clause-reached
returns-in_default-clause-reached c = absurd (there c)

pub returns-in_default-clause-missed : goal.returns-in_default-clause-missed
returns-in_default-clause-missed c = absurd (there c)
