use Rattle.std.proofs.Common.{◌≡◌, ℕ, ◌+◌, ◌<◌, ◌∙◌, Some, List, length, get_or, slice_get, take, subst}
use Rattle.std.proofs.Common.{sym, ap, arith, inl, inr}
use Rattle.std.specs.Prelude.{sum_by}
use Rattle.std.proofs.lemmas.Bool.{cases_eq}
use Rattle.std.proofs.lemmas.List.{take_more}
use Rattle.std.proofs.lemmas.List.Sums.{sum_by_push, sum_by-take-le}
use Rattle.std.proofs.lemmas.Option.{slice_get_within, slice_get-get_or}
use Rattle.order_graph.specs.Lists.{lists_of, row, Stands}
use Rattle.order_graph.specs.Spots.{spots_of}
use Rattle.order_graph.specs.declared.spot.Spot.{Spot}
use Rattle.order_graph.proofs.AllSpots.{spots_complete}
use Rattle.level_search.proofs.SpotRooms.{spots-room}
use Rattle.level_search.proofs.cycles.choose.least_next.Goals as goal

pub loop-i-preserved : goal.loop-i-preserved
loop-i-preserved c =
    let before = c.loop-i.invariant in
    let after = c.less_behind_spot-least.ensures in
    let rows = (lists_of c.args.graph.now) in
    let i : ℕ = c.loop-i.i in
    let falls = after.falls in
    let spots : List Spot = spots_of rows c.args.a in
    let d : Spot = record { list = 0; place = 0 } in
    let room : Spot → ℕ = λ (q : Spot). length (row rows q.list) in
    let low : i < length spots = omega (arith, c.loop-i-test.true, c.spots-i-end.ensures) in
    let one = after.looked (get_or spots i d) (slice_get-get_or spots i d low) in
    let more : sum_by room (take (i + 1) spots) ≡ sum_by room (take i spots) + room (get_or spots i d) =
    ap (λ (l : List Spot). sum_by room l) (take_more spots i d low)
    ∙ sum_by_push room (take i spots) (get_or spots i d) in
    record {
      least = λ k q y low get follows deep. elim (cases_eq k i) [
        | inl same ↦
            after.least q y (subst (λ n. slice_get (spots_of rows c.args.a) n ≡ Some q) same get) follows
            deep
        | inr other ↦ let old = before.least k q y (omega arith) get follows deep in omega arith
      ];
      first = elim after.first [
        | inl same ↦ rw same before.first
        | inr new ↦ inr new
      ];
      looked = let was = before.looked in omega (arith, was, one, more);
      forward = let was = before.forward in let up = after.forward in omega arith;
    }

pub returns-clause-least : goal.returns-clause-least
returns-clause-least c = λ y leads deep.
    let rows = (lists_of c.args.graph.now) in
    let among = spots_complete rows c.args.a leads.list leads.place leads.first in
    let within : among.at < length (spots_of rows c.args.a) =
    slice_get_within (spots_of rows c.args.a) among.at among.spot among.get in
    let place = among.place_is in
    let order = leads.in_order in
    c.loop-i.invariant.least among.at among.spot y (omega arith) among.get
    (record {
      later = leads.later;
      in_order = omega arith;
      stands = subst (λ l. Stands rows l leads.later y) (sym among.list_is) leads.second;
    })
    deep

pub returns-clause-looked : goal.returns-clause-looked
returns-clause-looked c =
    let v = c.args.graph.now in
    let rows = (lists_of v) in
    let was = c.loop-i.invariant.looked in
    omega (
      arith,
      was,
      sum_by-take-le (λ (q : Spot). length (row rows q.list)) (spots_of rows c.args.a) c.loop-i.i,
      spots-room v c.elements-least.ensures.proper c.args.a,
    )
