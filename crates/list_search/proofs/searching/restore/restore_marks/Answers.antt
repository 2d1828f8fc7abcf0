use Rattle.std.proofs.Common.{◌≡◌, ℕ, ◌<◌, inl, inr, Some, length, slice_get}
use Rattle.std.proofs.Common.{◌∙◌, subst, arith}
use Rattle.std.proofs.lemmas.Bool.{cases_eq}
use Rattle.std.proofs.lemmas.Option.{slice_get_within}
use Rattle.order_graph.specs.Lists.{lists_of}
use Rattle.order_graph.specs.Spots.{spots_of}
use Rattle.order_graph.proofs.AllSpots.{spots_complete}
use Rattle.list_search.proofs.searching.restore.restore_marks.Goals as goal

pub loop-i-preserved : goal.loop-i-preserved
loop-i-preserved c =
    let rows = lists_of c.args.graph.now in
    let i : ℕ = c.loop-i.i in
    let e = c.restore_at.ensures in
    record {
      count = e.count ∙ c.loop-i.invariant.count;
      each = λ m. elim (e.restored m) [
        | inl done ↦ inl done
        | inr (same, none) ↦ elim (c.loop-i.invariant.each m) [
          | inl was ↦ inl (same ∙ was)
          | inr (was, others) ↦ inr (
            same ∙ was,
            λ k q under at. elim (cases_eq k i) [
              | inl here ↦ none q (subst (λ n. slice_get (spots_of rows c.args.x) n ≡ Some q) here at)
              | inr apart ↦ others k q (omega arith) at
            ],
          )
        ]
      ];
    }

pub returns-clause-restored : goal.returns-clause-restored
returns-clause-restored c l =
    let rows = lists_of c.args.graph.now in
    elim (c.loop-i.invariant.each l) [
      | inl done ↦ inl done
      | inr (was, none) ↦ inr (
        was,
        λ p stands.
            (let among = spots_complete rows c.args.x l p stands in
            let within : among.at < length (spots_of rows c.args.x) =
            slice_get_within (spots_of rows c.args.x) among.at among.spot among.get in
            none among.at among.spot (omega (arith, within, c.spots-i-end.ensures, c.loop-i-test.false)) among.get
            among.list_is),
      )
    ]
