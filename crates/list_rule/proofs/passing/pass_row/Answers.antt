use Rattle.std.proofs.Common.{◌≡◌, ◌≤◌, ℕ, inl, inr, length, get_or, refl, sym, subst, ◌∙◌}
use Rattle.std.proofs.Common.{arith, slice_index}
use Rattle.std.proofs.lemmas.Bool.{cases_eq}
use Rattle.std.proofs.lemmas.List.{get_or_default}
use Rattle.std.proofs.lemmas.List.Elements.{Contains-get_or}
use Rattle.element_numbers.specs.Cuts.{rows_of}
use Rattle.list_rule.specs.Marks.{IsBegun}
use Rattle.list_rule.specs.Judging.{Asked, IsRightNumber, asked}
use Rattle.list_rule.proofs.Standing.{spots_short, spots_within}
use Rattle.list_rule.proofs.Marking.{begun}
use Rattle.list_rule.proofs.passing.pass_row.Goals as goal

pub begin_row-requires-clause-lists : goal.begin_row-requires-clause-lists
begin_row-requires-clause-lists c =
    spots_within (length c.args.depths.now) (rows_of c.args.places.now) c.args.spots.now c.args.source _ _
    c.requires.spots c.spots_of-sources.ensures
    (let count = c.requires.fits.count in omega (arith, count, c.args.state.now.marks.ok))

pub begin_row-requires-clause-places : goal.begin_row-requires-clause-places
begin_row-requires-clause-places c =
    spots_short (length c.args.depths.now) (rows_of c.args.places.now) c.args.spots.now c.args.source _
    c.requires.spots c.spots_of-sources.ensures c.requires.short

pub loop-x-init : goal.loop-x-init
loop-x-init c = record {
  judging = begun (length c.args.depths.now)
      (asked (rows_of c.args.places.now) c.args.depths.now c.args.most c.args.first c.args.source)
      c.args.spots.now 1 c.args.state.now c.begin_row.new.state c.requires.spots c.requires.short
      (let count = c.requires.fits.count in omega (arith, count, c.args.state.now.marks.ok))
      (subst (λ qs. IsBegun qs c.args.state.now c.begin_row.new.state) c.spots_of-sources.ensures
      c.begin_row.ensures);
  right = λ i low. absurd (omega (arith, low));
}

pub bounds-depths-x : goal.bounds-depths-x
bounds-depths-x c =
    ((c.requires.noted (get_or c.args.noted.now c.loop-x.x-index 0)).0
    (Contains-get_or c.args.noted.now c.loop-x.x-index 0 (omega arith))).0

pub set_depth-requires-clause-lists : goal.set_depth-requires-clause-lists
set_depth-requires-clause-lists c =
    spots_within (length c.args.depths.now) (rows_of c.args.places.now) c.args.spots.now c.args.source _ _
    c.requires.spots c.spots_of-sources.ensures
    (let count = c.loop-x.invariant.judging.fits.count in omega (arith, count, c.loop-x.state.marks.ok))

pub set_depth-requires-clause-places : goal.set_depth-requires-clause-places
set_depth-requires-clause-places c =
    spots_short (length c.args.depths.now) (rows_of c.args.places.now) c.args.spots.now c.args.source _
    c.requires.spots c.spots_of-sources.ensures c.requires.short

pub pass_spots-requires-clause-fits : goal.pass_spots-requires-clause-fits
pass_spots-requires-clause-fits c =
    (c.set_depth.ensures.judging
    (asked (rows_of c.args.places.now) c.args.depths.now c.args.most c.args.first c.args.source)
    (length c.args.depths.now) c.args.spots.now c.requires.spots c.requires.short c.spots_of-sources.ensures
    c.loop-x.invariant.judging).fits

pub returns-then-not-pass_spots-clause-rule : goal.returns-then-not-pass_spots-clause-rule
returns-then-not-pass_spots-clause-rule c = λ rule.
    let x : ℕ = get_or c.args.noted.now c.loop-x.x-index 0 in
    let low =
    ((c.requires.noted x).0 (Contains-get_or c.args.noted.now c.loop-x.x-index 0 (omega arith))).1 in
    let judging =
    c.set_depth.ensures.judging
    (asked (rows_of c.args.places.now) c.args.depths.now c.args.most c.args.first c.args.source)
    (length c.args.depths.now) c.args.spots.now c.requires.spots c.requires.short c.spots_of-sources.ensures
    c.loop-x.invariant.judging in
    sym c.if-not-pass_spots.true ∙ c.pass_spots.ensures.rule c.args.source refl low judging rule

pub loop-x-preserved : goal.loop-x-preserved
loop-x-preserved c =
    let a : Asked =
    asked (rows_of c.args.places.now) c.args.depths.now c.args.most c.args.first c.args.source in
    let k : ℕ = c.loop-x.x-index in
    let x : ℕ = get_or c.args.noted.now k 0 in
    let judging =
    c.set_depth.ensures.judging a (length c.args.depths.now) c.args.spots.now c.requires.spots c.requires.short
    c.spots_of-sources.ensures c.loop-x.invariant.judging in
    let t = c.if-not-pass_spots.false in
    record {
      judging = c.pass_spots.ensures.judging t c.args.source judging;
      right = λ i low. elim (cases_eq i k) [
        | inl here ↦
            subst (λ m. c.args.first ≤ slice_index c.args.noted.now m
            → IsRightNumber a c.args.spots.now (slice_index c.args.noted.now m)) (sym here)
            (c.pass_spots.ensures.right t c.args.source judging)
        | inr other ↦ c.loop-x.invariant.right i (omega (arith, low, other))
      ];
    }

pub returns-clause-right : goal.returns-clause-right
returns-clause-right c = λ t x has counts.
    let a : Asked =
    asked (rows_of c.args.places.now) c.args.depths.now c.args.most c.args.first c.args.source in
    let is : slice_index c.args.noted.now has.0 ≡ x = get_or_default c.args.noted.now has.0 0 x has.1 ∙ has.2 in
    subst (λ y. IsRightNumber a c.args.spots.now y) is
    (c.loop-x.invariant.right has.0 (let lt = has.1 in omega (arith, lt))
    (subst (λ y. c.args.first ≤ y) (sym is) counts))
