-- Each place where the element stands is one spot more.
use Rattle.std.proofs.Common.{◌≡◌, ℕ, List, length, take, get_or, slice_get, inl, inr, ◌∙◌, ap, arith}
use Rattle.std.proofs.lemmas.Bool.Decides.{eqb_tells}
use Rattle.order_graph.specs.Spots.{spots_in}
use Rattle.order_graph.proofs.OneSpot.{count-more, count-same, spot-there}
use Rattle.order_graph.proofs.spots.spot_in.Goals.{then-y-x+else-left-eq0, else-y-x}
use Rattle.order_graph.proofs.spots.spot_in.Goals as goal

pub returns-then-left-eq0 : goal.returns-then-left-eq0
returns-then-left-eq0 c =
    let row : List ℕ = c.args.row.now in
    let j : ℕ = c.loop-j.j in
    let before : c.args.i ≡ length (spots_in c.args.list 0 (take j row) c.args.x) =
    omega (arith, c.loop-j.invariant, c.if-left-eq0.true) in
    ap (slice_get (spots_in c.args.list 0 row c.args.x)) before
    ∙ spot-there c.args.list row j c.args.x c.loop-j-test.true c.if-y-x.true

pub loop-j-preserved : goal.loop-j-preserved
loop-j-preserved c =
    let row : List ℕ = c.args.row.now in
    let j : ℕ = c.loop-j.j in
    elim c.if-y-x.branch [
      | then-y-x+else-left-eq0 w ↦
          omega (
            arith,
            c.loop-j.invariant,
            count-more c.args.list row j c.args.x c.loop-j-test.true w.if-y-x.true,
            w.left-is,
            w.if-left-eq0.false,
          )
      | else-y-x w ↦
          elim (eqb_tells (get_or row j 0) c.args.x) [
            | inl h ↦ absurd (w.if-y-x.false h.1)
            | inr h ↦
                omega (
                  arith,
                  c.loop-j.invariant,
                  count-same c.args.list row j c.args.x c.loop-j-test.true h.0,
                  w.left-is,
                )
          ]
    ]
