use Rattle.std.proofs.Common.{◌≡◌, ℕ, ◌≤◌, inl, inr, List, slice_index, sym, ◌∙◌, subst, arith}
use Rattle.std.proofs.lemmas.Bool.{cases_eq}
use Rattle.list_layers.specs.Progress.{Grows, IsSeen, StandsWithin}
use Rattle.list_layers.proofs.Growing.{grows_both, grows_none, grows_weaker}
use Rattle.list_layers.proofs.sweep.read.Goals as goal

pub loop-j-init : goal.loop-j-init
loop-j-init c = record {
  places = omega arith;
  grows = grows_none (StandsWithin c.args.list.now c.args.from c.args.to) c.args.first c.args.seen.now.items
      c.args.next.now.items;
  seen = λ k low high. absurd (omega (arith, low, high));
}

pub loop-j-preserved : goal.loop-j-preserved
loop-j-preserved c =
    let list : List ℕ = c.args.list.now in
    let j : ℕ = c.loop-j.j in
    let first : ℕ = c.args.first in
    let y : ℕ = slice_index list j in
    let P : ℕ → Type 0 = StandsWithin list c.args.from c.args.to in
    let before = c.loop-j.invariant in
    let after = c.in_ok-enter.ensures in
    let b = c.loop-j.seen.items in
    let d = c.enter.new.seen.items in
    let step : Grows P first b c.loop-j.next.items d c.enter.new.next.items =
    grows_weaker (λ x. x ≡ y) P first b d c.loop-j.next.items c.enter.new.next.items
    (λ x e. (j, omega arith, omega arith, sym e)) after.grows in
    record {
      places = c.enter.ensures.places ∙ before.places;
      grows = grows_both P first c.args.seen.now.items b d c.args.next.now.items c.loop-j.next.items
          c.enter.new.next.items before.grows step;
      seen = λ k low high counts. elim (cases_eq k j) [
        | inl e ↦
            subst (λ i. IsSeen d (slice_index list i)) (sym e)
            (after.seen (subst (λ i. first ≤ slice_index list i) e counts))
        | inr other ↦ step.stays (slice_index list k) (before.seen k low (omega (arith, high, other)) counts)
      ];
    }

pub returns-clause-seen : goal.returns-clause-seen
returns-clause-seen c = λ k low high counts. c.loop-j.invariant.seen k low (omega (arith, high)) counts
