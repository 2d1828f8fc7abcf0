-- The least list's operation is the least.
use Rattle.std.proofs.Common.{◌≡◌, ℕ, Some, None, Option, sym, ◌∙◌, ap, subst}
use Rattle.std.specs.Prelude.{option_map}
use Rattle.events.specs.Operation.{Operation}
use Rattle.specification.specs.Responses.{Responses, Returned, AreProper, IsLeastShowing}
use Rattle.order_graph.specs.Lists.{lists_of, IsLeastList}
use Rattle.order_graph.proofs.Shown.{none-shown, least-shown, named-stands}
use Rattle.order_graph.proofs.order_graph.OrderGraph.before.Goals as goal

pub returns-in_err-list : goal.returns-in_err-list
returns-in_err-list c =
    let v : Responses = c.args.self.now in
    let answer : IsLeastShowing v c.args.a c.args.b None =
    none-shown v c.elements.ensures.proper c.args.a c.args.b c.in_err-list.ensures in
    subst (λ (o : Option Operation). IsLeastShowing v c.args.a c.args.b o)
    (sym c.from_residual.ensures) answer

pub returns : goal.returns
returns c =
    let v : Responses = c.args.self.now in
    let proper : AreProper v = c.elements.ensures.proper in
    let l : ℕ = c.in_ok-list.list in
    let a : ℕ = c.args.a in
    let b : ℕ = c.args.b in
    let least : IsLeastList (lists_of v) a b l = c.in_ok-list.ensures in
    let named = named-stands v proper l least.shows.place a least.shows.first in
    let r : Returned = named.by in
    let by : c.shown_by.result ≡ Some r.by =
    c.shown_by.ensures ∙ ap (option_map (λ (r : Returned). r.by)) named.at in
    subst (λ (o : Option Operation). IsLeastShowing v a b o) (sym by)
    (least-shown v proper a b l r named.at least)
