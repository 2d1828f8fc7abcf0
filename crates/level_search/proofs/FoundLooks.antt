-- A search that finds a cycle of m elements has made at least 2 * m - 1 looks: two at each of those from which
-- fewer steps lead to the source than the last level has, and one in that level.
use Rattle.std.proofs.Common.{◌≡◌, ℕ, zero, suc, ◌+◌, ◌-◌, ◌*◌, ◌<◌, ◌≤◌, true, cond, eqb, Option}
use Rattle.std.proofs.Common.{Some, None, List, [], ◌∷◌, length, refl, sym, ap, subst, arith, inl, inr}
use Rattle.std.specs.Prelude.{is_some}
use Rattle.std.proofs.lemmas.Bool.{cases_Bool, cases_eq, eq-eqb, eqb-true, true≢false}
use Rattle.specification.specs.Responses.{Responses, AreProper}
use Rattle.specification.specs.Search.{IsShortestLength}
use Rattle.specification.proofs.Members.{In, Once, Once-bounded}
use Rattle.order_graph.specs.Lists.{lists_of}
use Rattle.list_search.specs.Rings.{Reaches}
use Rattle.list_search.specs.Walks.{IsSearchAnswer, IsShortest}
use Rattle.list_search.proofs.Firsts.{reaches_walk, walk_reaches}
use Rattle.list_search.proofs.Joining.{before-known, shortest_of_all}
use Rattle.level_search.specs.Balls.{IsBall}
use Rattle.level_search.specs.LayerSizes.{bit, set_size}
use Rattle.level_search.specs.Looks.{HasLookedBy, HasRisenBy, IsCountBy, IsCountOf}
use Rattle.level_search.specs.declared.tabled.sets.Sets.{Sets}
use Rattle.level_search.proofs.LayerSizes.{bit-has, layer-more}
use Rattle.level_search.proofs.ListLooks.{counted-from}

-- the elements of a set
abbrev members : ℕ → List ℕ → List ℕ
members zero set = []
members (suc n) set = cond (eqb (bit set n) 1) (n ∷ members n set) (members n set)

members-few : (n : ℕ) (set : List ℕ) → length (members n set) ≤ set_size n set
members-few zero set = omega arith
members-few (suc n) set =
    let rest : List ℕ = members n set in
    let few : length rest ≤ set_size n set = members-few n set in
    elim (cases_Bool (eqb (bit set n) 1)) as (λ _. length (members (suc n) set) ≤ set_size (suc n) set) [
      | inl here ↦
          subst (λ b. length (cond {A = List ℕ} b (n ∷ rest) rest) ≤ set_size n set + bit set n) (sym here)
          (let one : bit set n ≡ 1 = eqb-true (bit set n) 1 here in omega arith)
      | inr other ↦
          subst (λ b. length (cond {A = List ℕ} b (n ∷ rest) rest) ≤ set_size n set + bit set n) (sym other)
          (omega arith)
    ]

members-in : (n : ℕ) (set : List ℕ) (x : ℕ) → x < n → bit set x ≡ 1 → In x (members n set)
members-in zero set x low here = absurd (omega arith)
members-in (suc n) set x low here =
    let rest : List ℕ = members n set in
    elim (cases_eq x n) as (λ _. In x (members (suc n) set)) [
      | inl same ↦
          subst (λ b. In x (cond {A = List ℕ} b (n ∷ rest) rest))
          (sym (eq-eqb (bit set n) 1 (subst (λ y. bit set y ≡ 1) same here))) (inl same)
      | inr other ↦
          let old : In x rest = members-in n set x (omega arith) here in
          elim (cases_Bool (eqb (bit set n) 1)) as (λ _. In x (members (suc n) set)) [
            | inl is ↦ subst (λ b. In x (cond {A = List ℕ} b (n ∷ rest) rest)) (sym is) (inr old)
            | inr not ↦ subst (λ b. In x (cond {A = List ℕ} b (n ∷ rest) rest)) (sym not) old
          ]
    ]

-- so many elements from which fewer steps lead to s
pub record AreNearer (rows : List (List ℕ)) (s j : ℕ) (xs : List ℕ) : Type 0 where
  pub count : length xs ≡ j
  pub once : Once xs
  pub near : (x : ℕ) → In x xs → (m : ℕ) × (m < j) × Reaches rows s m x

-- those on a least walk
nearer-ones : (rows : List (List ℕ)) (s j x : ℕ) → Reaches rows s j x
    → ((m : ℕ) → Reaches rows s m x → j ≤ m) → (xs : List ℕ) × AreNearer rows s j xs
nearer-ones rows s zero x walk least = ([], record { count = refl; once = tt; near = λ y i. absurd i })
nearer-ones rows s (suc j) x walk least =
    let y : ℕ = walk.0 in
    let low : (m : ℕ) → Reaches rows s m y → j ≤ m =
    λ m on. (let up = least (suc m) (y, walk.1, on) in omega arith) in
    let rest = nearer-ones rows s j y walk.2 low in (
      y ∷ rest.0,
      record {
        count = ap suc rest.1.count;
        once = (
          (λ i. (let at = rest.1.near y i in let up = low at.0 at.2 in let lt = at.1 in omega arith)),
          rest.1.once,
        );
        near = λ z i. elim i [
          | inl same ↦ (j, omega arith, subst (λ a. Reaches rows s j a) (sym same) walk.2)
          | inr other ↦ let at = rest.1.near z other in (at.0, (let lt = at.1 in omega arith), at.2)
        ];
      },
    )

module _ (v : Responses) (proper : AreProper v) where
  reach-known : (s m x : ℕ) → s < length v.elements → Reaches (lists_of v) s m x → x < length v.elements
  reach-known s zero x known walk = subst (λ a. a < length v.elements) (sym walk) known
  reach-known s (suc m) x known walk = (before-known v proper x walk.0 walk.1).0

  ball-size : (s level : ℕ) (near : List ℕ) → s < length v.elements → IsBall (lists_of v) s level near
      → IsShortest (lists_of v) s (suc level) → level ≤ set_size (length v.elements) near
  ball-size s level near known ball shortest =
      let rows : List (List ℕ) = lists_of v in
      let n : ℕ = length v.elements in
      let walk : Reaches rows s (suc level) s = reaches_walk rows s (suc level) s shortest.cycle.1 in
      let least : (m : ℕ) → Reaches rows s m walk.0 → level ≤ m =
      λ m on. (let up =
      shortest.shortest (suc m) (omega arith, walk_reaches rows s (suc m) s (walk.0, walk.1, on)) in
      omega arith) in
      let ones = nearer-ones rows s level walk.0 walk.2 least in
      let few : length ones.0 ≤ length (members n near) =
      Once-bounded ones.0 (members n near) ones.1.once (λ x i.
      (let at = ones.1.near x i in
      members-in n near x (reach-known s at.0 x known at.2) (bit-has near x ((ball x).1 at)))) in
      omega (arith, few, members-few n near, ones.1.count)

  table-least : (s low : ℕ) (sets : Sets) (m count : ℕ) → s < length v.elements
      → IsShortest (lists_of v) s m
      → IsCountOf (length v.elements) (lists_of v) s low sets (Some m) count → 2 * m ≤ count + 1
  table-least s low sets m count known shortest is =
      let at = is.3 in
      let last : m ≡ at.level + 1 = at.is_part.0 in
      let x : ℕ = at.is_part.1 in
      let here = at.is_part.2.here in
      let part = at.is_part.3 in
      let same : m ≡ suc at.level = omega (arith, last) in
      omega (
        arith,
        last,
        part,
        at.is_sum,
        layer-more sets x here.reached here.not_near,
        ball-size s at.level sets.near known at.near (subst (IsShortest (lists_of v) s) same shortest),
      )

  either-least : (s low : ℕ) (sets : Sets) (m count : ℕ) → s < length v.elements
      → IsShortest (lists_of v) s m
      → IsCountBy (length v.elements) (lists_of v) s low sets (Some m) count → 2 * m ≤ count + 1
  either-least s low sets m count known shortest (inl is) =
      table-least s low sets m count known shortest is
  either-least s low sets m count known shortest (inr is) = let two = is.1 in omega arith

  -- a search under a bound of one more than the shortest length, which finds a cycle
  pub ring-looks : (k s b : ℕ) (sets : Sets) (answer : Option ℕ) (old new : ℕ) → IsShortestLength v k
      → s < length v.elements → b ≡ k + 1 → IsSearchAnswer (lists_of v) s b answer
      → HasLookedBy (length v.elements) (lists_of v) s b sets answer old new → old ≤ 18446744073709551615
      → true ≡ is_some answer → HasRisenBy (2 * k - 1) old new
  ring-looks k s b sets None old new shortest known bound is looks small found =
      absurd (true≢false found)
  ring-looks k s b sets (Some m) old new shortest known bound is looks small found =
      let low : k ≤ m = (shortest_of_all v proper k shortest).shortest s m known is.0.cycle in
      let least = either-least s b sets m looks.0 known is.0 looks.1 in
      let new_is = looks.2 in
      omega (arith, low, least, new_is, counted-from looks.0 old small)

-- no search lowers the count
pub looked-up : (n : ℕ) (rows : List (List ℕ)) (s low : ℕ) (sets : Sets) (answer : Option ℕ) (old new : ℕ)
    → HasLookedBy n rows s low sets answer old new → old ≤ 18446744073709551615 → old ≤ new
looked-up n rows s low sets answer old new looks small =
    let new_is = looks.2 in omega (arith, new_is, counted-from looks.0 old small)
