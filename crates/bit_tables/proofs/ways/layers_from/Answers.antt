use Rattle.std.proofs.Common.{◌≡◌, ℕ, ◌+◌, ◌/◌, ◌<◌, ◌≤◌, ◌∙◌, ◌⊎◌, inl, inr, List, [], ◌∷◌, ◌++◌, Vec, Global, map}
use Rattle.std.proofs.Common.{length, ap, sym, subst, arith}
use Rattle.std.specs.Prelude.{◌↔◌, Contains}
use Rattle.std.proofs.lemmas.Grind.{common_steps}
use Rattle.std.proofs.lemmas.List.{map-append}
use Rattle.bit_tables.specs.Sets.{Has, room}
use Rattle.bit_tables.specs.Lists.{row_of}
use Rattle.bit_tables.proofs.LayerLemmas.{settled_step}
use Rattle.bit_tables.proofs.Those.{those_all, cases_has}
use Rattle.bit_tables.proofs.WayLemmas.{IsWalked, walked_more, walked-layer}
use Rattle.bit_tables.proofs.ways.layers_from.Goals as goal

pub add_layer-requires : goal.add_layer-requires
add_layer-requires c =
    let size : length c.loop-d.reached ≡ c.args.n / 64 + 1 = c.loop-d.invariant.reached_len in
    rw c.as_slice.ensures.value
    (those_all _ c.args.n (room c.loop-d.reached) _ (omega arith) c.in_ok-layer.ensures)

pub add_unless_last-requires-clause-within : goal.add_unless_last-requires-clause-within
add_unless_last-requires-clause-within c =
    rw c.as_slice-in-loop-d.ensures.value
    (those_all _ c.args.n (length c.args.table.now) _ (omega arith) c.in_ok-layer.ensures)

pub loop-d-preserved : goal.loop-d-preserved
loop-d-preserved c =
    let inv = c.loop-d.invariant in
    let items : Vec ℕ Global → List ℕ = λ (layer : Vec ℕ Global). layer.items in
    let layers : List (List ℕ) = map items c.loop-d.layers.items in
    let layer : List ℕ = c.in_ok-layer.layer.items in
    let pushed : map items c.push.new.self.items ≡ layers ++ layer ∷ [] =
    ap (map items) c.in_ok-push.ensures.items
    ∙ map-append items c.loop-d.layers.items (c.in_ok-layer.layer ∷ []) in
    let more_reached : (y : ℕ) → Has c.add_layer.new.into y ↔ (Has c.loop-d.reached y ⊎ Contains layer y) =
    subst (λ l. (y : ℕ) → Has c.add_layer.new.into y ↔ (Has c.loop-d.reached y ⊎ Contains l y))
    c.as_slice.ensures.value c.add_layer.ensures.has in
    let more_shown : c.loop-d.d + 1 < c.args.count → (y : ℕ) → c.args.first ≤ y
    → Has c.add_unless_last.new.into y
    ↔ (Has c.loop-d.shown y ⊎ ((x : ℕ) × Contains layer x × Has (row_of c.args.table.now x) y)) =
    subst (λ l. c.loop-d.d + 1 < c.args.count → (y : ℕ) → c.args.first ≤ y → Has c.add_unless_last.new.into y
    ↔ (Has c.loop-d.shown y ⊎ ((x : ℕ) × Contains l x × Has (row_of c.args.table.now x) y)))
    c.as_slice-in-loop-d.ensures.value c.add_unless_last.ensures.has in
    record {
      reached_len = c.add_layer.ensures.len ∙ inv.reached_len;
      shown_len = c.add_unless_last.ensures.len ∙ inv.shown_len;
      settled = λ is_empty more y low.
          settled_step c.args.table.now layer c.loop-d.shown c.add_unless_last.new.into c.add_layer.new.into
          c.args.first c.args.first (grind (arith, common_steps, is_empty, c.is_empty-is_settled.ensures)) (omega arith) y
          (λ less. (more_reached y).1 (inl ((inv.walked.reached_is y).1 (inl less))))
          (λ has. (more_reached y).1 (elim (cases_has c.loop-d.reached y) [
            | inl known ↦ inl known
            | inr new ↦ inr ((c.in_ok-layer.ensures.has y).1 (low, (has, new)))
          ])) (more_shown more y);
      walked =
          subst (λ ls. IsWalked c.args.count c.args.n c.args.first c.args.source
          (c.loop-d.d + 1) c.args.table.now ls c.add_layer.new.into c.add_unless_last.new.into) (sym pushed)
          (walked_more c.args.count c.args.n c.args.first c.args.source c.args.table.now c.requires.len
          c.requires.counts c.requires.within c.loop-d.d layers layer
          c.loop-d.reached c.loop-d.shown c.add_layer.new.into c.add_unless_last.new.into inv.walked
          (omega arith) c.in_ok-layer.ensures more_reached more_shown);
    }

pub returns-clause-layers : goal.returns-clause-layers
returns-clause-layers c = λ d lt.
    walked-layer c.args.count c.args.n c.args.first c.args.source c.args.table.now c.requires.len
    c.requires.counts c.requires.within c.loop-d.d
    (map (λ (layer : Vec ℕ Global). layer.items) c.loop-d.layers.items) c.loop-d.reached c.loop-d.shown
    c.loop-d.invariant.walked d (omega (arith, lt))
