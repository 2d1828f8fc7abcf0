use Rattle.std.proofs.Common.{◌≡◌, ℕ, ◌∙◌, ◌+◌, inl, inr, List, length, map, refl, sym, arith}
use Rattle.std.proofs.Common.{true≢false}
use Rattle.std.proofs.lemmas.Grind.{common_steps}
use Rattle.std.proofs.lemmas.List.{length-map}
use Rattle.bit_tables.proofs.LayerLemmas.{all-from, all-within, list-here, settled_step, tested_step}
use Rattle.bit_tables.proofs.LayerLemmas.{tested_subset, tested_all, gradual_more, shown_more, none_below, negated}
use Rattle.bit_tables.proofs.layers.meets_rule.Goals as goal

pub layers-preserved : goal.layers-preserved
layers-preserved c =
    let inv = c.layers.invariant in
    let here =
    list-here (λ layer. layer.items) c.args.layers.now c.layers.i c.index-layers-i.result (omega arith)
    c.index-layers-i.is in
    let grown = rw (c.deref.ensures.value, ← here) at c.add_layer.ensures.has in
    let more = rw (c.deref-in-layers.ensures.value, ← here) at c.add_successors.ensures.has in
    record {
      standing_len = c.add_layer.ensures.len ∙ inv.standing_len;
      shown_len = c.add_successors.ensures.len ∙ inv.shown_len;
      last = inr (omega arith);
      least = inv.least;
      settled =
          λ is_empty y. settled_step c.args.table.now c.deref-in-layers.result.now c.layers.shown
          c.add_successors.new.into c.add_layer.new.into c.args.first _
          (grind (arith, common_steps, is_empty, c.is_empty-is_settled.ensures, c.deref-in-layers.ensures.value)) inv.least.0 y
          (λ low. (c.add_layer.ensures.has y).1 (inl ((inv.tested.standing_is y).1 (inl low))))
          (c.all_stand.ensures.0 c.if-not-all_stand.false y) (c.add_successors.ensures.has y);
      tested =
          tested_step _ _ _ inv.least.0 _ _ _ _ _ inv.tested grown _
          (c.all_stand.ensures.0 c.if-not-all_stand.false) more;
    }

pub returns-then-not-all_stand : goal.returns-then-not-all_stand
returns-then-not-all_stand c lists depth table depths =
    let inv = c.layers.invariant in
    let count = length-map c.args.layers.now (λ layer. layer.items) in
    let here =
    list-here (λ layer. layer.items) c.args.layers.now c.layers.i c.index-layers-i.result (omega arith)
    c.index-layers-i.is in
    let grown = rw (c.deref.ensures.value, ← here) at c.add_layer.ensures.has in
    rw (← count) (
      λ bad. absurd (true≢false (sym bad)),
      λ meets.
          absurd
          (true≢false
          (sym (c.all_stand.ensures.1
          (tested_subset _ _ _ inv.least.0 _ _ _ _ _ inv.tested grown c.args.n c.args.source lists depth
          (omega (arith, count)) (all-from _ _ _ c.requires.from) (all-within _ _ _ c.requires.within)
          table depths meets))
          ∙ c.if-not-all_stand.true)),
    )

pub returns-then-i-layers : goal.returns-then-i-layers
returns-then-i-layers c lists depth table depths =
    let inv = c.layers.invariant in
    let count = length-map c.args.layers.now (λ layer. layer.items) in
    let last : c.layers.i + 1 ≡ length (map (λ layer. layer.items) c.args.layers.now) =
    omega (arith, count) in
    let here =
    list-here (λ layer. layer.items) c.args.layers.now c.layers.i c.index-layers-i.result (omega arith)
    c.index-layers-i.is in
    let grown = rw (c.deref.ensures.value, ← here) at c.add_layer.ensures.has in
    let shown = rw (c.deref-then-i-layers.ensures.value, ← here) at c.is_shown.ensures in
    let none = negated c.is_shown.result _ shown in
    let gradual =
    gradual_more _ _ _ inv.least.0 _ _ _ _ _ inv.tested grown
    (c.all_stand.ensures.0 c.if-not-all_stand.false) in
    let more = shown_more _ _ _ inv.least.0 _ _ _ _ _ inv.tested grown c.args.source inv.least.1 in
    let whole =
    tested_all c.args.n c.args.first c.args.source _ c.args.table.now lists _ depth
    (all-from _ _ _ c.requires.from) (all-within _ _ _ c.requires.within) (rw last at gradual)
    (rw last at more) table depths in
    rw (← count) (λ t. whole.0 (none.0 t), λ meets. none.1 (whole.1 meets))

pub returns : goal.returns
returns c lists depth table depths =
    let all : List (List ℕ) = map (λ layer. layer.items) c.args.layers.now in
    let count = length-map c.args.layers.now (λ layer. layer.items) in
    let empty : length all ≡ 0 = elim c.layers.invariant.last [
      | inl none ↦ omega (arith, none, count, c.layers-test.false)
      | inr some ↦ absurd (omega (arith, some, count, c.layers-test.false))
    ] in
    let whole =
    tested_all c.args.n c.args.first c.args.source all c.args.table.now lists ⊥ depth
    (all-from _ _ _ c.requires.from) (all-within _ _ _ c.requires.within)
    (λ j x y low. absurd (omega (arith, low, empty)))
    (λ no. absurd no, λ s. none_below all c.args.table.now c.args.source empty s) table depths in
    rw (← count) (λ _. whole.0 (λ no. no), λ _. refl)
