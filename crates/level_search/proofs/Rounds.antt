-- On a shortest cycle through s the elements are those between: as many steps lead to them from s, and from
-- them to s, as the cycle has together.
use Rattle.std.proofs.Common.{◌≡◌, ℕ, ◌+◌, ◌<◌, ◌≤◌, ◌⊎◌, inl, inr, List, length, get_or, map}
use Rattle.std.proofs.Common.{[], ◌∷◌, refl, ap, sym, ◌∙◌, subst, arith}
use Rattle.std.specs.Prelude.{◌↔◌, Option, true, is_some, reverse, sum_by}
use Rattle.std.proofs.lemmas.Bool.{cases_Bool, cases_eq, cases_lt}
use Rattle.std.proofs.lemmas.Grind.{get_or_default_zero}
use Rattle.std.proofs.lemmas.List.{length-reverse}
use Rattle.std.proofs.lemmas.List.Sums.{sum_by-cons}
use Rattle.specification.specs.Responses.{Responses, AreProper, place_count}
use Rattle.specification.specs.Search.{IsShortestLength}
use Rattle.order_graph.specs.Lists.{lists_of}
use Rattle.order_graph.specs.Turned.{turned}
use Rattle.order_graph.proofs.Shown.{lists-total}
use Rattle.order_graph.proofs.Turned.{lists_turned}
use Rattle.list_search.specs.Distances.{IsDistanceBelow}
use Rattle.list_search.specs.Rings.{IsDistanceTo, Reaches}
use Rattle.list_search.specs.Clean.{IsReady, ReadyView}
use Rattle.list_search.specs.Walks.{HasCycle, IsSearchAnswer, NoneShorter, Walk}
use Rattle.list_search.proofs.Firsts.{reaches_walk, walk_reaches}
use Rattle.list_search.proofs.Joining.{found-here, none-here, shortest_of_all}
use Rattle.list_search.proofs.RingWalks.{reaches_both}
use Rattle.level_search.specs.Rounds.{IsBetween, IsRoundOf}
use Rattle.level_search.specs.Sources.{MeetsCycles}

lengths-turned : (rows : List (List ℕ))
    → map (λ (r : List ℕ). length r) (map reverse rows) ≡ map (λ (r : List ℕ). length r) rows
lengths-turned [] = refl
lengths-turned (r ∷ rs) =
    let here = length-reverse r in
    let rest = lengths-turned rs in
    λ i. here i ∷ rest i

-- a scratch that is clean for lists is so for them in the other direction
same-lengths : (v : Responses)
    → map (λ (r : List ℕ). length r) (lists_of (turned v)) ≡ map (λ (r : List ℕ). length r) (lists_of v)
same-lengths v =
    ap (λ (rows : List (List ℕ)). map (λ (r : List ℕ). length r) rows) (lists_turned v)
    ∙ lengths-turned (lists_of v)

total-turned : (rows : List (List ℕ))
    → sum_by (λ (r : List ℕ). length r) (map reverse rows) ≡ sum_by (λ (r : List ℕ). length r) rows
total-turned [] = refl
total-turned (r ∷ rs) =
    omega (
      arith,
      total-turned rs,
      length-reverse r,
      sum_by-cons (λ (l : List ℕ). length l) r rs,
      sum_by-cons (λ (l : List ℕ). length l) (reverse r) (map reverse rs),
    )

-- in the other direction there are as many places and elements
pub places-turned : (v : Responses)
    → place_count (turned v) + length (turned v).elements ≡ place_count v + length v.elements
places-turned v =
    ap (λ p. p + length v.elements)
    (sym (lists-total (turned v))
    ∙ ap (λ (rows : List (List ℕ)). sum_by (λ (r : List ℕ). length r) rows) (lists_turned v)
    ∙ total-turned (lists_of v) ∙ lists-total v)

pub ready-turned : (s : ReadyView) (v : Responses) → IsReady s v → IsReady s (turned v)
ready-turned s v ready = record {
  marks = ready.marks ∙ sym (same-lengths v);
  seen = ready.seen;
  places = ready.places;
}

pub ready_turned-from : (s : ReadyView) (v : Responses) → IsReady s (turned v) → IsReady s v
ready_turned-from s v ready = record {
  marks = ready.marks ∙ same-lengths v;
  seen = ready.seen;
  places = ready.places;
}

module _ (rows : List (List ℕ)) (s k : ℕ) where
  -- who is on a cycle through s is on one
  pub round-cycle : (t : ℕ) → 0 < k → IsRoundOf rows s k t → HasCycle rows t k
  round-cycle t some round = (
    omega arith,
    walk_reaches rows t k t
        (subst (λ n. Reaches rows t n t)
        (let e : round.1 + round.0 ≡ k = omega (arith, round.2) in e)
        (reaches_both rows t s t round.1 round.0 round.4 round.3)),
  )

  -- what is between is on a cycle
  pub between-cycle : (to from : List ℕ) (x : ℕ) → IsDistanceBelow rows s k x (get_or from x 0)
      → IsDistanceTo rows s k x (get_or to x 0) → IsBetween to from k x → HasCycle rows x k
  between-cycle to from x away back is =
      let near = is.near in
      let some = is.away in
      let same = is.back in
      round-cycle x (omega arith) (
        get_or from x 0,
        get_or to x 0,
        omega arith,
        reaches_walk rows s (get_or from x 0) x (away.walk near),
        back.walk (omega arith),
      )

  -- and what is on a shortest cycle is between, but for s
  pub round-between : (to from : List ℕ) (t : ℕ) → NoneShorter rows s k
      → IsDistanceBelow rows s k t (get_or from t 0) → IsDistanceTo rows s k t (get_or to t 0)
      → IsRoundOf rows s k t → (t ≡ s) ⊎ IsBetween to from k t
  round-between to from t shortest far home round =
      let f : ℕ = get_or from t 0 in
      let d : ℕ = get_or to t 0 in
      let m : ℕ = round.0 in
      let n : ℕ = round.1 in
      let sum : m + n ≡ k = round.2 in
      let there : Reaches rows t m s = round.3 in
      let back : Reaches rows s n t = round.4 in
      let low : f ≤ m = far.least m (walk_reaches rows s m t there) in
      let near : d ≤ n = home.least n back in
      elim (cases_eq m 0) as (λ _. (t ≡ s) ⊎ IsBetween to from k t) [
        | inl none ↦ inl (sym (subst (λ i. Reaches rows t i s) none there))
        | inr some ↦ elim (cases_eq f 0) as (λ _. (t ≡ s) ⊎ IsBetween to from k t) [
          | inl here ↦ inl (subst (λ i. Walk rows s i t) here (far.walk (omega arith)))
          | inr away ↦ elim (cases_lt f k) as (λ _. (t ≡ s) ⊎ IsBetween to from k t) [
            | inr past ↦
                let last : n ≡ 0 = omega arith in
                inl (subst (λ i. Reaches rows s i t) last back)
            | inl inside ↦
                let walk : Reaches rows t f s = reaches_walk rows s f t (far.walk inside) in
                let home_walk : Reaches rows s d t = home.walk (omega arith) in
                let long : k ≤ f + d =
                shortest (f + d) (
                  omega arith,
                  walk_reaches rows s (f + d) s
                      (reaches_both rows s t s f d walk home_walk),
                ) in
                inr (record { away = omega arith; near = inside; back = omega arith })
          ]
        ]
      ]

-- the least found is the one, where none below is on a shortest cycle, or all sources have told
pub least-one : (v : Responses) → AreProper v → (k least : ℕ) → IsShortestLength v k
    → ((t : ℕ) → t < length v.elements → HasCycle (lists_of v) t k → least ≤ t)
    → (least ≡ length v.elements) ⊎ HasCycle (lists_of v) least k
    → (least < length v.elements) × HasCycle (lists_of v) least k
least-one v proper k least shortest lowest found =
    let some = shortest_of_all v proper k shortest in
    let low = lowest some.source some.known some.cycle in
    let known = some.known in
    let inside : least < length v.elements = omega arith in
    elim found as (λ _. (least < length v.elements) × HasCycle (lists_of v) least k) [
      | inl none ↦ absurd (omega arith)
      | inr cycle ↦ (inside, cycle)
    ]

-- a search under a bound of one more than the shortest length tells whether there is a cycle so short
pub ring-told : (v : Responses) → AreProper v → (k s b : ℕ) (answer : Option ℕ) → IsShortestLength v k
    → s < length v.elements → b ≡ k + 1 → IsSearchAnswer (lists_of v) s b answer
    → (is_some answer ≡ true) ↔ HasCycle (lists_of v) s k
ring-told v proper k s b answer shortest known bound is = (
  λ found. found-here v proper k s b answer shortest known bound is (sym found),
  λ cycle. elim (cases_Bool (is_some answer)) as (λ _. is_some answer ≡ true) [
    | inl found ↦ found
    | inr missed ↦ absurd (none-here v proper k s b answer bound is (sym missed) cycle)
  ],
)

-- where all sources have told, no lesser element is on a shortest cycle
pub lowest-met : (rows : List (List ℕ)) (n k least : ℕ) (sources : List ℕ) → MeetsCycles rows n sources
    → ((j t : ℕ) → j < length sources → IsRoundOf rows (get_or sources j 0) k t → least ≤ t) → (t : ℕ)
    → t < n → HasCycle rows t k → least ≤ t
lowest-met rows n k least sources met round t known cycle =
    let found = met t k known cycle in
    let at = found.1 in
    let here : get_or sources at.0 0 ≡ found.0 =
    sym (get_or_default_zero sources at.0 found.0 at.1) ∙ at.2 in
    round at.0 t at.1 (subst (λ s. IsRoundOf rows s k t) (sym here) found.3)

-- where all lesser elements are on none
pub lowest-past : (rows : List (List ℕ)) (i k least : ℕ) → ((t : ℕ) → t < i → ¬ HasCycle rows t k)
    → least ≤ i → (t : ℕ) → HasCycle rows t k → least ≤ t
lowest-past rows i k least none past t cycle = elim (cases_lt t i) [
  | inl low ↦ absurd (none t low cycle)
  | inr high ↦ omega arith
]

-- a source with an element on a shortest cycle through it is on one
pub round-source : (v : Responses) → AreProper v → (k s t : ℕ) → IsShortestLength v k
    → IsRoundOf (lists_of v) s k t → HasCycle (lists_of v) s k
round-source v proper k s t shortest round =
    let some = (shortest_of_all v proper k shortest).cycle.0 in (
      some,
      walk_reaches (lists_of v) s k s
          (subst (λ n. Reaches (lists_of v) s n s) round.2
          (reaches_both (lists_of v) s t s round.0 round.1 round.3 round.4)),
    )
