-- One number after the other has such a depth, or has not.
use Rattle.std.proofs.Common.{◌≡◌, ◌+◌, ◌<◌, ◌≤◌, ℕ, List, [], ◌∷◌, ◌++◌, inl, inr, get_or, sym, ap}
use Rattle.std.proofs.Common.{subst, arith}
use Rattle.std.specs.Prelude.{◌↔◌, Contains}
use native.Mathlib.Decide.{ℕ_discrete}
use Rattle.std.proofs.lemmas.Grind.{common_steps}
use Rattle.std.proofs.lemmas.List.Elements.{Contains-append_left, Contains-push, Contains-push_cases}
use Rattle.list_rule.proofs.tests.noted_of.Goals.{then-depths-x+in_ok-push, else-depths-x}
use Rattle.list_rule.proofs.tests.noted_of.Goals as goal

module _ (depths noted : List ℕ) (count x y : ℕ) (so_far : Contains noted y
    ↔ ((y < x) × (get_or depths y 0 < count))) where
  added : get_or depths x 0 < count → Contains (noted ++ x ∷ []) y
      ↔ ((y < x + 1) × (get_or depths y 0 < count))
  added low = (
    λ c. elim (Contains-push_cases noted x y c) [
      | inl old ↦ let p = so_far.0 old in ((let lt = p.0 in omega arith), p.1)
      | inr e ↦ (omega arith, subst (λ n. get_or depths n 0 < count) e low)
    ],
    λ p. elim (ℕ_discrete y x) [
      | yes e ↦ subst (λ n. Contains (noted ++ x ∷ []) n) (sym e) (Contains-push noted x)
      | no other ↦ Contains-append_left noted (x ∷ []) y (so_far.1 ((let lt = p.0 in omega arith), p.1))
    ],
  )

  left-out : count ≤ get_or depths x 0 → Contains noted y ↔ ((y < x + 1) × (get_or depths y 0 < count))
  left-out high = (
    λ c. let p = so_far.0 c in ((let lt = p.0 in omega arith), p.1),
    λ p. elim (ℕ_discrete y x) [
      | yes e ↦
          absurd (let same : get_or depths y 0 ≡ get_or depths x 0 = ap (λ n. get_or depths n 0) e in
          let lt = p.1 in omega arith)
      | no other ↦ so_far.1 ((let lt = p.0 in omega arith), p.1)
    ],
  )

pub loop-x-preserved : goal.loop-x-preserved
loop-x-preserved c = λ y.
    let depths : List ℕ = c.args.depths.now in
    let noted : List ℕ = c.loop-x.noted.items in
    let count : ℕ = c.args.count in
    let x : ℕ = c.loop-x.x in
    elim c.if-depths-x.branch [
      | then-depths-x+in_ok-push w ↦
          (let pushed : c.if-depths-x.noted.items ≡ noted ++ x ∷ [] =
          grind (arith, common_steps, w.in_ok-push.ensures.items, w.noted-is) in
          subst (λ (l : List ℕ). Contains l y ↔ ((y < x + 1) × (get_or depths y 0 < count))) (sym pushed)
          (added depths noted count x y (c.loop-x.invariant y) w.if-depths-x.true))
      | else-depths-x w ↦
          (let same : c.if-depths-x.noted.items ≡ noted = ap (λ v. v.items) w.noted-is in
          subst (λ (l : List ℕ). Contains l y ↔ ((y < x + 1) × (get_or depths y 0 < count))) (sym same)
          (left-out depths noted count x y (c.loop-x.invariant y) w.if-depths-x.false))
    ]

pub returns : goal.returns
returns c = λ x.
    let p = c.loop-x.invariant x in (
      λ h. let q = p.0 h in ((let lt = q.0 in omega arith), q.1),
      λ q. p.1 ((let lt = q.0 in omega arith), q.1),
    )
