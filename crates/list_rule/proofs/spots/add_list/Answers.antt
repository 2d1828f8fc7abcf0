use Rattle.std.proofs.Common.{◌≡◌, ◌≢◌, ℕ, inl, inr, List, [], ◌∷◌, ◌++◌, slice_index, refl}
use Rattle.std.proofs.Common.{sym, subst, ◌∙◌, arith}
use Rattle.std.specs.Prelude.{Contains}
use Rattle.std.proofs.lemmas.Bool.{cases_eq}
use Rattle.std.proofs.lemmas.List.Elements.{Contains-append_left, Contains-push, Contains-push_cases}
use Rattle.list_rule.specs.Spots.{IsSpotIn, spots_at}
use Rattle.list_rule.specs.declared.spot.Spot.{Spot}
use Rattle.list_rule.proofs.spots.add_list.Goals as goal

pub loop-place-preserved : goal.loop-place-preserved
loop-place-preserved c =
    let row : List ℕ = c.args.row.now in
    let j : ℕ = c.loop-place.place in
    let y : ℕ = slice_index row j in
    let old = c.loop-place.spots.items in
    let new = c.add_spot.new.spots.items in
    let spot : Spot = record { list = c.args.list; place = j } in
    let before = c.loop-place.invariant in
    let here : spots_at new y ≡ spots_at old y ++ spot ∷ [] = c.in_ok-add_spot.ensures.here in
    let others : (x : ℕ) → x ≢ y → spots_at new x ≡ spots_at old x = c.in_ok-add_spot.ensures.others in
    let kept : (x : ℕ) (q : Spot) → Contains (spots_at old x) q → Contains (spots_at new x) q =
    λ x q has. elim (cases_eq x y) [
      | inl e ↦
          subst (λ z. Contains (spots_at new z) q) (sym e)
          (subst (λ (l : List Spot). Contains l q) (sym here)
          (Contains-append_left (spots_at old y) (spot ∷ []) q
          (subst (λ z. Contains (spots_at old z) q) e has)))
      | inr other ↦ subst (λ (l : List Spot). Contains l q) (sym (others x other)) has
    ] in
    record {
      count = c.in_ok-add_spot.ensures.count ∙ before.count;
      old = λ x q has. kept x q (before.old x q has);
      new = λ p low. elim (cases_eq p j) [
        | inl e ↦
            subst (λ i. Contains (spots_at new (slice_index row i)) (record { list = c.args.list; place = i }))
            (sym e)
            (subst (λ (l : List Spot). Contains l spot) (sym here) (Contains-push (spots_at old y) spot))
        | inr other ↦
            kept (slice_index row p) (record { list = c.args.list; place = p })
            (before.new p (omega (arith, low, other)))
      ];
      only = λ x q has. elim (cases_eq x y) [
        | inl e ↦
            let now : Contains (spots_at old y ++ spot ∷ []) q =
            subst (λ (l : List Spot). Contains l q) here (subst (λ z. Contains (spots_at new z) q) e has) in
            elim (Contains-push_cases (spots_at old y) spot q now) [
              | inl was ↦ before.only x q (subst (λ z. Contains (spots_at old z) q) (sym e) was)
              | inr is ↦
                  let made : IsSpotIn c.args.list row x spot = record {
                    list_is = refl;
                    within = omega arith;
                    here = sym e;
                  } in
                  inr (subst (λ (p : Spot). IsSpotIn c.args.list row x p) is made)
            ]
        | inr other ↦ before.only x q (subst (λ (l : List Spot). Contains l q) (others x other) has)
      ];
    }
