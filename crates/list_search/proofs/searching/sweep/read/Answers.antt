use Rattle.std.proofs.Common.{◌<◌, subst, ◌∙◌, arith, inl, inr}
use Rattle.std.proofs.lemmas.Bool.{cases_eq}
use Rattle.order_graph.specs.Lists.{lists_of, Stands}
use Rattle.list_search.specs.Progress.{IsAfter, Grows}
use Rattle.list_search.proofs.Growth.{grows_both, grows_weaker, still_reached, still_unfound, works_both}
use Rattle.list_search.proofs.searching.sweep.read.Goals as goal

pub loop-j-preserved : goal.loop-j-preserved
loop-j-preserved c =
    let before = c.loop-j.invariant in
    let after = c.read_one.ensures in
    let rows = (lists_of c.args.graph.now) in
    let list = c.args.spot.list in
    let place = c.args.spot.place in
    let j = c.loop-j.j in
    let a = c.args.state.now in
    let b = c.loop-j.state in
    let d = c.read_one.new.state in
    let behind : place < j = omega arith in
    let step : Grows (IsAfter rows list place) c.args.element b d =
    grows_weaker (Stands rows list j) (IsAfter rows list place) c.args.element b d
    (λ x stands. record { later = j; in_order = behind; stands = stands }) after.grows in
    record {
      good = after.good;
      grows = grows_both (IsAfter rows list place) c.args.element a b d before.grows step;
      reached = λ k x low high stands. elim (cases_eq k j) [
        | inl same ↦ after.reached x (subst (λ i. Stands rows list i x) same stands)
        | inr other ↦
            still_reached (IsAfter rows list place) c.args.element x b d step
            (before.reached k x low (omega arith) stands)
      ];
      missed = λ e k low high stands. elim (cases_eq k j) [
        | inl same ↦ after.missed e (subst (λ i. Stands rows list i c.args.element) same stands)
        | inr other ↦
            before.missed (still_unfound (IsAfter rows list place) c.args.element b d step e) k low
            (omega arith) stands
      ];
      marks = after.marks ∙ before.marks;
      works = works_both a b d c.args.looked.now c.loop-j.looked c.read_one.new.looked before.works
          after.works;
      cost = let h = before.cost in let k = after.cost in omega arith;
    }
