-- Where numbers stand in lists, and what that shows.
use Rattle.std.proofs.Common.{◌≡◌, ℕ, zero, suc, ◌+◌, ◌-◌, ◌^◌, ◌<◌, ◌≤◌, inl, inr, Some, List, [], ◌∷◌, Vec}
use Rattle.std.proofs.Common.{Global, length, drop, get_or, slice_get, ap, subst, ◌∙◌, arith}
use Rattle.std.specs.Prelude.{All, Contains}
use Rattle.std.proofs.lemmas.Bool.{cases_lt}
use Rattle.std.proofs.lemmas.List.{get_or_past, length-drop, length-take}
use Rattle.std.proofs.lemmas.List.Elements.{All-get_or, Contains-get_or}
use Rattle.std.proofs.lemmas.Option.{get_or_from_slice_get, slice_get-get_or, slice_get_within}
use Rattle.bit_tables.specs.Lists.{IsShown}
use Rattle.element_numbers.specs.Cuts.{cut}
use Rattle.list_rule.specs.Spots.{AreSpotsOf, Stands, row, spots_at}
use Rattle.list_rule.specs.declared.spot.Spot.{Spot}

-- a list with a place is one of the lists
pub row_within : (lists : List (List ℕ)) (l p : ℕ) → p < length (row lists l) → l < length lists
row_within lists l p some = elim (cases_lt l (length lists)) [
  | inl low ↦ low
  | inr past ↦
      let none : length (row lists l) ≡ 0 = ap (λ (r : List ℕ). length r) (get_or_past lists l [] past) in
      absurd (omega (arith, none, some))
]

pub list_within : (lists : List (List ℕ)) (l p x : ℕ) → Stands lists l p x → l < length lists
list_within lists l p x stands = row_within lists l p stands.within

-- what stands in the lists is below their bound
pub known_at : (lists : List (List ℕ)) (n l p x : ℕ) → All (λ list. All (λ y. y < n) list) lists
    → Stands lists l p x → x < n
known_at lists n l p x all stands =
    let list : All (λ y. y < n) (row lists l) =
    All-get_or (λ list. All (λ y. y < n) list) lists l [] (list_within lists l p x stands) all in
    subst (λ y. y < n) stands.here (All-get_or (λ y. y < n) (row lists l) p 0 stands.within list)

get_at : (lists : List (List ℕ)) (l p x : ℕ) → Stands lists l p x → slice_get (row lists l) p ≡ Some x
get_at lists l p x stands = slice_get-get_or (row lists l) p 0 stands.within ∙ ap Some stands.here

pub shown_in : (lists : List (List ℕ)) (l p j x y : ℕ) → p < j → Stands lists l p x → Stands lists l j y
    → IsShown lists x y
shown_in lists l p j x y lt one two =
    (l, list_within lists l p x one, (p, j, lt, get_at lists l p x one, get_at lists l j y two))

pub stands_from : (lists : List (List ℕ)) (l p x : ℕ) → slice_get (row lists l) p ≡ Some x → Stands lists l p x
stands_from lists l p x at = record {
  within = slice_get_within (row lists l) p x at;
  here = get_or_from_slice_get (row lists l) p x 0 at;
}

-- the spots of a number stand in the lists, at places that can be counted
pub spots_within : (n : ℕ) (lists : List (List ℕ)) (spots : List (Vec Spot Global)) (x m : ℕ) (these : List Spot)
    → AreSpotsOf n lists spots → these ≡ spots_at spots x → m ≡ length lists → All (λ q. q.list < m) these
spots_within n lists spots x m these are is count k d lt =
    let q : Spot = get_or these k d in
    let listed : Contains (spots_at spots x) q =
    subst (λ (l : List Spot). Contains l q) is (Contains-get_or these k d lt) in
    let low = list_within lists q.list q.place x (are.sound x q listed) in
    omega (arith, low, count)

pub spots_short : (n : ℕ) (lists : List (List ℕ)) (spots : List (Vec Spot Global)) (x : ℕ) (these : List Spot)
    → AreSpotsOf n lists spots → these ≡ spots_at spots x → ((l : ℕ) → length (row lists l) < 2 ^ 32)
    → All (λ q. q.place + 1 < 2 ^ 32) these
spots_short n lists spots x these are is short k d lt =
    let q : Spot = get_or these k d in
    let listed : Contains (spots_at spots x) q =
    subst (λ (l : List Spot). Contains l q) is (Contains-get_or these k d lt) in
    let low = (are.sound x q listed).within in
    let most = short q.list in
    omega (arith, low, most)

-- no row is longer than all rows together
pub row_short : (from : ℕ) (ends xs : List ℕ) (l : ℕ) → length (get_or (cut from ends xs) l []) ≤ length xs
row_short from [] xs l =
    (let e = ap (λ (r : List ℕ). length r) (get_or_past (cut from [] xs) l [] (omega arith)) in
    omega (arith, e))
row_short from (e ∷ ends) xs zero = (let n = length-take {A = ℕ} (e - from) xs in omega (arith, n))
row_short from (e ∷ ends) xs (suc l) =
    (let n = length-drop {A = ℕ} (e - from) xs in
    let h = row_short e ends (drop (e - from) xs) l in
    omega (arith, n, h))
