use Rattle.std.proofs.Common.{◌+◌, ◌≤◌, ◌∙◌, length, sym, subst, inl, inr}
use Rattle.std.proofs.lemmas.Option.{same_Some}
use Rattle.order_graph.specs.Lists.{lists_of, row, Stands}
use Rattle.order_graph.specs.declared.spot.Spot.{Spot}
use Rattle.list_search.specs.Progress.{IsAfter}
use Rattle.order_graph.proofs.AllSpots.{spots_sound}
use Rattle.level_search.proofs.cycles.choose.less_behind_spot.Goals as goal

pub less_behind-requires-clause-inside : goal.less_behind-requires-clause-inside
less_behind-requires-clause-inside c =
    (spots_sound (lists_of c.args.graph.now) c.args.a c.args.i c.in-Some.spot (sym c.in-Some.ensures)).within

pub returns-in-Some-clause-first : goal.returns-in-Some-clause-first
returns-in-Some-clause-first c =
    let spot = c.in-Some.spot in
    let here : Stands (lists_of c.args.graph.now) spot.list spot.place c.args.a =
    spots_sound (lists_of c.args.graph.now) c.args.a c.args.i spot (sym c.in-Some.ensures) in
    elim c.less_behind.ensures.first [
      | inl same ↦ inl same
      | inr less ↦
          let after : IsAfter (lists_of c.args.graph.now) spot.list spot.place c.less_behind.result =
          less.0 in
          inr (
            record {
              list = spot.list;
              place = spot.place;
              later = after.later;
              in_order = after.in_order;
              first = here;
              second = after.stands;
            },
            less.1,
          )
    ]

pub returns-in-Some-clause-looked : goal.returns-in-Some-clause-looked
returns-in-Some-clause-looked c = λ q get.
    subst (λ (s : Spot). c.less_behind.new.looked
    ≤ c.args.looked.now + length (row (lists_of c.args.graph.now) s.list))
    (same_Some c.in-Some.spot q (c.in-Some.ensures ∙ get)) c.less_behind.ensures.looked
