use Rattle.std.proofs.Common.{◌≡◌, ◌<◌, ℕ, inl, inr, List, length, get_or, sym, ap, subst, ◌∙◌, arith}
use Rattle.std.specs.Prelude.{Contains}
use Rattle.std.proofs.lemmas.Bool.{cases_eq}
use Rattle.std.proofs.lemmas.List.{get_or_default}
use Rattle.std.proofs.lemmas.List.Elements.{Contains-get_or}
use Rattle.element_numbers.specs.Cuts.{rows_of}
use Rattle.list_rule.specs.Spots.{spots_at}
use Rattle.list_rule.specs.Judging.{IsRightBehind, asked}
use Rattle.list_rule.specs.declared.spot.Spot.{Spot}
use Rattle.list_rule.proofs.passing.pass_spots.Goals as goal

pub pass_spot-requires-clause-inside : goal.pass_spot-requires-clause-inside
pass_spot-requires-clause-inside c =
    let these : List Spot = c.spots_of-these.result.now in
    let q : Spot = get_or these c.loop-spot.spot-index (record { list = 0; place = 0 }) in
    let listed : Contains (spots_at c.args.spots.now c.args.x) q =
    subst (λ (l : List Spot). Contains l q) c.spots_of-these.ensures
    (Contains-get_or these c.loop-spot.spot-index (record { list = 0; place = 0 }) (omega arith)) in
    (c.requires.spots.sound c.args.x q listed).within

pub returns-then-not-pass_spot-clause-rule : goal.returns-then-not-pass_spot-clause-rule
returns-then-not-pass_spot-clause-rule c = λ source is low judging rule.
    let these : List Spot = c.spots_of-these.result.now in
    let q : Spot = get_or these c.loop-spot.spot-index (record { list = 0; place = 0 }) in
    let listed : Contains (spots_at c.args.spots.now c.args.x) q =
    subst (λ (l : List Spot). Contains l q) c.spots_of-these.ensures
    (Contains-get_or these c.loop-spot.spot-index (record { list = 0; place = 0 }) (omega arith)) in
    sym c.if-not-pass_spot.true
    ∙ c.pass_spot.ensures.rule c.args.x source c.args.spots.now (c.requires.spots.sound c.args.x q listed)
    (omega arith) is low (c.loop-spot.invariant.judging source judging) rule

pub loop-spot-preserved : goal.loop-spot-preserved
loop-spot-preserved c =
    let these : List Spot = c.spots_of-these.result.now in
    let none : Spot = record { list = 0; place = 0 } in
    let k : ℕ = c.loop-spot.spot-index in
    let within : k < length these = omega arith in
    let q : Spot = get_or these k none in
    let listed : Contains (spots_at c.args.spots.now c.args.x) q =
    subst (λ (l : List Spot). Contains l q) c.spots_of-these.ensures (Contains-get_or these k none within) in
    let t = c.if-not-pass_spot.false in
    let inv = c.loop-spot.invariant in
    record {
      fits = c.pass_spot.ensures.fits;
      judging = λ source was. c.pass_spot.ensures.judging t source c.args.spots.now (inv.judging source was);
      right = λ source was i p low at. elim (cases_eq i k) [
        | inl here ↦
            let is : q ≡ p =
            ap (λ m. get_or these m none) (sym here)
            ∙ get_or_default these i none p (omega (arith, here, within)) ∙ at in
            subst (λ (r : Spot). IsRightBehind (asked (rows_of c.args.places.now) c.args.depths.now c.args.most
            c.args.first source) c.args.bound r) is
            (c.pass_spot.ensures.right t (length c.args.depths.now) source c.args.spots.now c.requires.spots
            (c.args.x, listed) (inv.judging source was))
        | inr other ↦ inv.right source was i p (omega (arith, low, other)) at
      ];
    }
