use Rattle.std.proofs.Common.{◌≡◌, ℕ, ◌<◌, inl, inr, List, [], get_or, get_or-set_same}
use Rattle.std.proofs.Common.{get_or-set_other, length, slice_set, sym, ap, ◌∙◌, arith}
use Rattle.std.proofs.lemmas.Bool.{cases_eq, cases_lt}
use Rattle.std.proofs.lemmas.List.{get_or_past}
use Rattle.std.proofs.lemmas.Option.{same_Some}
use Rattle.order_graph.specs.Lists.{lists_of, row, Stands}
use Rattle.order_graph.specs.declared.spot.Spot.{Spot}
use Rattle.order_graph.proofs.AllSpots.{spots_sound}
use Rattle.list_search.proofs.searching.restore.restore_at.Goals as goal

-- where something stands there is a list
stands_within : (rows : List (List ℕ)) (l p x : ℕ) → Stands rows l p x → l < length rows
stands_within rows l p x stands = elim (cases_lt l (length rows)) [
  | inl under ↦ under
  | inr past ↦
      let none : row rows l ≡ [] = get_or_past rows l [] past in
      absurd (let within = stands.within in omega (arith, ap (λ (r : List ℕ). length r) none))
]

pub index_mut-requires : goal.index_mut-requires
index_mut-requires c =
    let rows = lists_of c.args.graph.now in
    let spot = c.in-Some.spot in
    let under =
    stands_within rows spot.list spot.place c.args.x
    (spots_sound rows c.args.x c.args.i spot (sym c.in-Some.ensures)) in
    omega (arith, under, c.requires)

pub returns-in-Some-clause-restored : goal.returns-in-Some-clause-restored
returns-in-Some-clause-restored c l =
    let rows = lists_of c.args.graph.now in
    let spot = c.in-Some.spot in
    let old = c.args.marks.now.items in
    let under =
    stands_within rows spot.list spot.place c.args.x
    (spots_sound rows c.args.x c.args.i spot (sym c.in-Some.ensures)) in
    elim (cases_eq l spot.list) [
      | inl e ↦ inl (ap (λ m. get_or (slice_set old spot.list c.length.result) m 0) e
          ∙ get_or-set_same old spot.list c.length.result 0 (omega (arith, under, c.requires))
          ∙ c.length.ensures ∙ ap (λ m. length (row rows m)) (sym e))
      | inr apart ↦ inr (
        get_or-set_other old spot.list l c.length.result 0 apart,
        λ q at same.
            (let one : q ≡ spot = same_Some q spot (sym at ∙ sym c.in-Some.ensures) in
            apart (sym (sym (ap (λ (s : Spot). s.list) one) ∙ same))),
      )
    ]
