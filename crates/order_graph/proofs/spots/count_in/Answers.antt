-- Each place where the element stands is one spot more.
use Rattle.std.proofs.Common.{ℕ, List, length, get_or, inl, inr, ◌∙◌, ap, arith}
use Rattle.std.proofs.lemmas.Bool.Decides.{eqb_tells}
use Rattle.std.proofs.lemmas.List.{take_all}
use Rattle.order_graph.specs.Spots.{spots_in}
use Rattle.order_graph.proofs.OneSpot.{count-more, count-same}
use Rattle.order_graph.proofs.spots.count_in.Goals.{then-y-x, else-y-x}
use Rattle.order_graph.proofs.spots.count_in.Goals as goal

pub loop-y-preserved : goal.loop-y-preserved
loop-y-preserved c =
    let row : List ℕ = c.args.row.now in
    let j : ℕ = c.loop-y.y-index in
    elim c.if-y-x.branch [
      | then-y-x w ↦
          record {
            counted =
                λ list. omega (
                  arith,
                  c.loop-y.invariant.counted list,
                  count-more list row j c.args.x c.loop-y-test.true w.if-y-x.true,
                  w.count-is,
                );
            few = omega (arith, c.loop-y.invariant.few, w.count-is);
          }
      | else-y-x w ↦
          record {
            counted = λ list.
                elim (eqb_tells (get_or row j 0) c.args.x) [
                  | inl h ↦ absurd (w.if-y-x.false h.1)
                  | inr h ↦
                      omega (
                        arith,
                        c.loop-y.invariant.counted list,
                        count-same list row j c.args.x c.loop-y-test.true h.0,
                        w.count-is,
                      )
                ];
            few = omega (arith, c.loop-y.invariant.few, w.count-is);
          }
    ]

pub returns : goal.returns
returns c = λ list.
    c.loop-y.invariant.counted list ∙ ap (λ (r : List ℕ). length (spots_in list 0 r c.args.x))
    (take_all c.loop-y.y-index c.args.row.now (omega (arith, c.loop-y-test.false)))
