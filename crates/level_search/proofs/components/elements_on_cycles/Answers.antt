-- What is marked lies on a cycle, and nothing else does.
use Rattle.std.proofs.Common.{◌≡◌, ℕ, ◌<◌, Bool, true, false, List, get_or, length, ap, sym, subst}
use Rattle.std.proofs.Common.{arith}
use Rattle.std.specs.Prelude.{◌↔◌}
use Rattle.std.proofs.lemmas.Option.{slice_get_within}
use Rattle.std.proofs.lemmas.Result.{IfOk-weaker}
use Rattle.specification.specs.Responses.{Responses}
use Rattle.level_search.specs.Cores.{LiesOnCycle}
use Rattle.level_search.proofs.OnCycles.{marked-within}
use Rattle.level_search.proofs.components.elements_on_cycles.Goals as goal

pub returns : goal.returns
returns c =
    let v : Responses = c.args.graph.now in
    let marks : List Bool = c.in_ok-marks.marks.items in
    let lent : c.as_slice.result.now ≡ marks = c.as_slice.ensures.value in
    let count : length c.as_slice.result.now ≡ length v.elements =
    omega (
      arith,
      ap (λ (l : List Bool). length l) lent,
      c.in_ok-marks.ensures.count,
      c.in_ok-marks.marks.ok,
    ) in
    let tells : (x : ℕ) → x < length v.elements
    → (get_or c.as_slice.result.now x false ≡ true) ↔ LiesOnCycle v x =
    subst (λ (l : List Bool). (x : ℕ) → x < length v.elements → (get_or l x false ≡ true) ↔ LiesOnCycle v x)
    (sym lent) c.in_ok-marks.ensures.marks in
    record {
      rising = c.marked.ensures.rising;
      known = IfOk-weaker c.marked.result _ _
          (λ w all. λ k d within. (let low = all k d within in omega arith)) c.marked.ensures.known;
      few = IfOk-weaker c.marked.result _ _ (λ w few. omega arith) c.marked.ensures.few;
      on_cycles = IfOk-weaker c.marked.result _ _
          (λ w only. λ k d within.
          (let mark = only k d within in
          let inside = marked-within c.as_slice.result.now (get_or w.items k d) mark in
          (tells (get_or w.items k d) (omega arith)).0 mark)) c.marked.ensures.only;
      whole = IfOk-weaker c.marked.result _ _
          (λ w all. λ x lies.
          (let inside = slice_get_within v.elements x lies.1.name lies.1.number in
          all x (omega arith) ((tells x inside).1 lies))) c.marked.ensures.all;
    }
