-- What a table of all lists says of depths is what each list says of them, and no depth is past the last.
use Rattle.std.proofs.Common.{◌≡◌, ℕ, ◌+◌, ◌<◌, ◌≤◌, Some, List, [], length, get_or, arith}
use Rattle.std.specs.Prelude.{All, slice_get, slice_index, slice_index_or}
use native.Mathlib.Decide.{ℕ_discrete}
use Rattle.std.proofs.lemmas.List.{get_or_default}
use Rattle.std.proofs.lemmas.List.Elements.{All-get_or}
use Rattle.std.proofs.lemmas.Option.{slice_get-get_or}
use Rattle.events.specs.Names.{NameBytes}
use Rattle.specification.proofs.Members.{In, Before, All-member, Before-from_places, places_of_Before}
use Rattle.specification.proofs.Members.{Before-first, Before-second}
use Rattle.bit_tables.specs.Lists.{IsShown}
use Rattle.bit_tables.specs.Rule.{MeetsRule}
use Rattle.cert_check.specs.Noted.{Noted, Holds}
use Rattle.cert_check.specs.Numbering.{AreDeepAt, AreWithin, lists_of, places_at}
use Rattle.cert_check.specs.declared.numbered.Numbered.{Numbered}

-- no depth that is noted is past the last
pub depths-most : (names : List NameBytes) (unset : ℕ) (noted : List Noted) (values : List ℕ)
    → Holds names unset noted values → All (λ d. d ≤ unset) values
depths-most names unset noted values holds i d lt =
    let size : length values ≡ length names = holds.size in
    let a : NameBytes = get_or names i [] in
    let at : slice_get names i ≡ Some a = slice_get-get_or names i [] (omega (arith, lt, size)) in
    let same : get_or values i d ≡ slice_index values i = get_or_default values i d 0 lt in
    elim (ℕ_discrete (slice_index values i) unset) [
      | yes e ↦ omega (arith, same, e)
      | no n ↦
          let here = holds.here (a, slice_index values i) i (holds.others a i at n) at in
          let below : slice_index values i < unset = here.1 in
          omega (arith, same, below)
    ]

module _ (t : Numbered) (depths : List ℕ) (first source most : ℕ) (within : AreWithin (length depths) t) where
  near : (j x : ℕ) → j < length (lists_of t) → In x (places_at t j)
      → slice_index_or depths x most ≡ slice_index depths x
  near j x lt i =
      let list : All (λ y. y < length depths) (places_at t j) =
      All-get_or (λ list. All (λ y. y < length depths) list) (lists_of t) j [] lt within in
      let low : x < length depths = All-member (λ y. y < length depths) (places_at t j) x list i in
      get_or_default depths x most 0 low

  pub lists_from_table : MeetsRule (lists_of t) first source most (λ x. slice_index_or depths x most)
      → (j : ℕ) → j < length (lists_of t) → AreDeepAt t depths first source most j
  lists_from_table rule j lt = (
    λ x y high from h.
        let shown : IsShown (lists_of t) x y = (j, lt, places_of_Before (places_at t j) x y h) in
        let le : slice_index_or depths y most ≤ slice_index_or depths x most + 1 =
        rule.gradual x y high from shown in
        let ex = near j x lt (Before-first x y (places_at t j) h) in
        let ey = near j y lt (Before-second x y (places_at t j) h) in
        omega arith,
    λ x high h.
        let le : most ≤ slice_index_or depths x most =
        rule.deep x high (j, lt, places_of_Before (places_at t j) x source h) in
        let ex = near j x lt (Before-first x source (places_at t j) h) in
        omega arith,
  )

  pub table_from_lists : ((j : ℕ) → j < length (lists_of t) → AreDeepAt t depths first source most j)
      → MeetsRule (lists_of t) first source most (λ x. slice_index_or depths x most)
  table_from_lists all = record {
    gradual = λ x y high from shown.
        let j : ℕ = shown.0 in
        let lt : j < length (lists_of t) = shown.1 in
        let h : Before x y (places_at t j) =
        Before-from_places (places_at t j) x y shown.2.0 shown.2.1 shown.2.2 shown.2.3 shown.2.4 in
        let le : slice_index depths y ≤ slice_index depths x + 1 = (all j lt).0 x y high from h in
        let ex = near j x lt (Before-first x y (places_at t j) h) in
        let ey = near j y lt (Before-second x y (places_at t j) h) in
        omega arith;
    deep = λ x high shown.
        let j : ℕ = shown.0 in
        let lt : j < length (lists_of t) = shown.1 in
        let h : Before x source (places_at t j) =
        Before-from_places (places_at t j) x source shown.2.0 shown.2.1 shown.2.2 shown.2.3 shown.2.4 in
        let le : most ≤ slice_index depths x = (all j lt).1 x high h in
        let ex = near j x lt (Before-first x source (places_at t j) h) in
        omega arith;
  }
