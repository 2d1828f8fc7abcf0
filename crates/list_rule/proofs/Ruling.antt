-- What is passed meets the rule, and what stops a row does not.
use Rattle.std.proofs.Common.{◌≡◌, ℕ, ◌+◌, ◌<◌, ◌≤◌, inl, inr, List, Vec, Global, length, slice_index}
use Rattle.std.proofs.Common.{slice_index_or, arith}
use Rattle.std.specs.Prelude.{All, Contains}
use Rattle.std.proofs.lemmas.Bool.{cases_lt}
use Rattle.std.proofs.lemmas.List.{get_or_default, get_or_past}
use Rattle.std.proofs.lemmas.List.Elements.{All-get_or}
use Rattle.bit_tables.specs.Rule.{HaveDepths, MeetsRule}
use Rattle.list_rule.specs.Spots.{AreSpotsOf, Stands}
use Rattle.list_rule.specs.Judging.{IsRightNumber, asked}
use Rattle.list_rule.specs.declared.spot.Spot.{Spot}
use Rattle.list_rule.proofs.Standing.{known_at, shown_in}

pub depth_most : (depths : List ℕ) (most y : ℕ) → All (λ d. d ≤ most) depths
    → slice_index_or depths y most ≤ most
depth_most depths most y all = elim (cases_lt y (length depths)) [
  | inl low ↦ All-get_or (λ d. d ≤ most) depths y most low all
  | inr past ↦ (let e = get_or_past depths y most past in omega (arith, e))
]

-- a row whose number stands before the source does not meet the rule
pub not_before_source : (lists : List (List ℕ)) (depths : List ℕ) (most first source l p s x : ℕ)
    → All (λ list. All (λ y. y < length depths) list) lists → first ≤ x → slice_index depths x < most → p < s
    → Stands lists l p x → Stands lists l s source
    → ¬ MeetsRule lists first source most (λ y. slice_index_or depths y most)
not_before_source lists depths most first source l p s x all counts low lt one two rule =
    let le = rule.deep x counts (shown_in lists l p s x source lt one two) in
    let e = get_or_default depths x most 0 (known_at lists (length depths) l p x all one) in
    omega (arith, le, e, low)

-- where the rule is met, what stands behind a number is no more than one deeper
pub no_deeper : (lists : List (List ℕ)) (depths : List ℕ) (most first source l p j x y bound : ℕ)
    → All (λ list. All (λ z. z < length depths) list) lists → first ≤ x → first ≤ y
    → slice_index depths x + 1 ≡ bound → p < j → Stands lists l p x → Stands lists l j y
    → MeetsRule lists first source most (λ z. slice_index_or depths z most) → slice_index depths y ≤ bound
no_deeper lists depths most first source l p j x y bound all cx cy is lt one two rule =
    let le = rule.gradual x y cx cy (shown_in lists l p j x y lt one two) in
    let ex = get_or_default depths x most 0 (known_at lists (length depths) l p x all one) in
    let ey = get_or_default depths y most 0 (known_at lists (length depths) l j y all two) in
    omega (arith, le, ex, ey, is)

module _ (lists : List (List ℕ)) (depths noted : List ℕ) (most first source : ℕ)
    (spots : List (Vec Spot Global)) (are : AreSpotsOf (length depths) lists spots)
    (has : HaveDepths depths most noted) (all : All (λ d. d ≤ most) depths)
    (right : (x : ℕ) → Contains noted x → first ≤ x
    → IsRightNumber (asked lists depths most first source) spots x) where
  inside : (x : ℕ) → slice_index_or depths x most < most → x < length depths
  inside x low = elim (cases_lt x (length depths)) [
    | inl lt ↦ lt
    | inr past ↦ (let e = get_or_past depths x most past in absurd (omega (arith, e, low)))
  ]

  near : (x : ℕ) → slice_index_or depths x most < most → slice_index_or depths x most ≡ slice_index depths x
  near x low = get_or_default depths x most 0 (inside x low)

  among : (x : ℕ) → slice_index_or depths x most < most → Contains noted x
  among x low = (has x).1 (inside x low, (let e = near x low in omega (arith, e, low)))

  pub meets : MeetsRule lists first source most (λ y. slice_index_or depths y most)
  meets = record {
    gradual = λ x y cx cy shown.
        let at = are.shown x y shown in
        let my = depth_most depths most y all in
        elim (cases_lt (slice_index_or depths x most) most) [
          | inl low ↦
              (let is = right x (among x low) cx at.spot at.listed in
              let le = is.gradual at.later y at.in_order at.stands cy in
              let e = near x low in
              omega (arith, le, e))
          | inr high ↦ omega (arith, my, high)
        ];
    deep = λ x cx shown.
        let at = are.shown x source shown in
        elim (cases_lt (slice_index_or depths x most) most) [
          | inl low ↦
              (let is = right x (among x low) cx at.spot at.listed in
              absurd (is.deep at.later at.in_order at.stands))
          | inr high ↦ high
        ];
  }
