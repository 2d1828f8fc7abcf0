use Rattle.std.proofs.Common.{ℕ, ◌-◌, ◌<◌, inl, inr, false, List, [], length, map, replicate}
use Rattle.std.proofs.Common.{get_or, slice_index, refl, sym, ◌∙◌, arith}
use Rattle.std.proofs.lemmas.Bool.{cases_lt, cases_Bool}
use Rattle.std.proofs.lemmas.List.{ext_get_or, get_or-map, get_or-replicate, length-map, length-replicate}
use Rattle.order_graph.specs.Lists.{lists_of, row}
use Rattle.list_search.specs.Graph.{graph_of}
use Rattle.list_search.proofs.searching.restore.restore.Goals as goal

pub loop-k-init : goal.loop-k-init
loop-k-init c =
    let rows = lists_of c.args.graph.now in
    let st = c.args.state.now in
    let good = c.requires in
    record {
      fits = good.fits;
      queue = refl;
      marks = λ m. elim (cases_lt (slice_index st.marks.items m) (length (row rows m))) [
        | inl under ↦
            let last : ℕ = length (row rows m) - 1 in
            let reached = good.covered m last (slice_index (row rows m) last) (omega arith)
            (record { within = omega arith; here = refl }) in
            inr (
              reached.at,
              last,
              omega arith,
              reached.early,
              record { within = omega arith; here = sym reached.here },
            )
        | inr past ↦ let most = good.marks_in m in inl (omega arith)
      ];
      seen = λ x seen. (let reached = good.queued.seen x seen in
          (reached.at, omega arith, reached.early, reached.here));
    }

pub returns : goal.returns
returns c =
    let g = graph_of c.args.graph.now in
    let rows = lists_of c.args.graph.now in
    let st = c.loop-k.state in
    let inv = c.loop-k.invariant in
    record {
      fits = inv.fits;
      marks = ext_get_or 0 st.marks.items (map (λ r. length r) rows)
          (omega (arith, inv.fits.marks_len, st.marks.ok, length-map {B = ℕ} rows (λ (r : List ℕ). length r)))
          (λ m under. elim (inv.marks m) [
            | inl done ↦
                let inside : m < length rows = omega (arith, inv.fits.marks_len, st.marks.ok) in
                done ∙ sym (get_or-map (λ (r : List ℕ). length r) rows m [] 0 inside)
            | inr (j, p, low, high, stands) ↦ absurd (omega (arith, low, high, c.loop-k-test.false))
          ]);
      seen = ext_get_or false st.seen.items (replicate g.elements false)
          (omega (arith, inv.fits.seen_len, st.seen.ok, length-replicate g.elements false))
          (λ x under. elim (cases_Bool (get_or st.seen.items x false)) [
            | inl seen ↦
                let left = inv.seen x seen in
                absurd (omega (arith, left.1, left.2, c.loop-k-test.false))
            | inr unseen ↦
                unseen ∙ sym (get_or-replicate g.elements x false false
                (omega (arith, inv.fits.seen_len, st.seen.ok)))
          ]);
    }
