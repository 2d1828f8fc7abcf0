-- The first of the cycles of least length, chosen element by element.
use Rattle.std.proofs.Common.{◌≡◌, ℕ, zero, suc, ◌-◌, ◌<◌, ◌≤◌, List, [], ◌∷◌, length, get_or, refl, sym}
use Rattle.std.proofs.Common.{subst, arith, inl, inr}
use Rattle.std.proofs.lemmas.Bool.{cases_lt}
use Rattle.list_search.specs.Graph.{Graph, Before}
use Rattle.list_search.specs.Rings.{IsFirstRing, IsLeastNext, IsNotAfter, IsRing, Leads, Reaches}
use Rattle.list_search.specs.Walks.{HasCycle, Walk}

-- a walk told from its first step, and from its last
pub reaches_last : (rows : List (List ℕ)) (x y z n : ℕ) → Reaches rows y n x → Before rows y z
    → Reaches rows z (suc n) x
reaches_last rows x y z zero here leads = (z, subst (λ i. Before rows i z) (sym here) leads, refl)
reaches_last rows x y z (suc n) walk leads = (walk.0, walk.1, reaches_last rows walk.0 y z n walk.2 leads)

pub reaches_walk : (rows : List (List ℕ)) (s n x : ℕ) → Walk rows s n x → Reaches rows x n s
reaches_walk rows s zero x walk = sym walk
reaches_walk rows s (suc n) x walk =
    reaches_last rows s walk.0 x n (reaches_walk rows s n walk.0 walk.1) walk.2

pub walk_first : (rows : List (List ℕ)) (s y n x : ℕ) → Before rows s y → Walk rows y n x
    → Walk rows s (suc n) x
walk_first rows s y zero x leads here = (s, refl, subst (λ i. Before rows s i) (sym here) leads)
walk_first rows s y (suc n) x leads walk = (walk.0, walk_first rows s y n walk.0 leads walk.1, walk.2)

pub walk_reaches : (rows : List (List ℕ)) (s n x : ℕ) → Reaches rows x n s → Walk rows s n x
walk_reaches rows s zero x here = sym here
walk_reaches rows s (suc n) x walk = walk_first rows s walk.0 n x walk.1 (walk_reaches rows walk.0 n x walk.2)

pub leads_reaches : (rows : List (List ℕ)) (a : ℕ) (path : List ℕ) (z : ℕ) → Leads rows a path z
    → Reaches rows z (suc (length path)) a
leads_reaches rows a [] z leads = (z, leads, refl)
leads_reaches rows a (b ∷ rest) z leads = (b, leads.0, leads_reaches rows b rest z leads.1)

-- each element of the path is the least that can stand there
abbrev pub AreLeast : List (List ℕ) → ℕ → ℕ → List ℕ → Type 0
AreLeast rows z a [] = Unit {0}
AreLeast rows z a (b ∷ rest) = IsLeastNext rows z (suc (length rest)) a b × AreLeast rows z b rest

pub least_each : (rows : List (List ℕ)) (z a : ℕ) (path : List ℕ)
    → ((j : ℕ) → j < length path
    → IsLeastNext rows z (length path - j) (get_or (a ∷ path) j 0) (get_or path j 0))
    → AreLeast rows z a path
least_each rows z a [] each = tt
least_each rows z a (b ∷ rest) each = (
  subst (λ n. IsLeastNext rows z n a b) (let e : suc (length rest) - 0 ≡ suc (length rest) = omega arith in
      e) (each 0 (omega arith)),
  least_each rows z b rest (λ j h.
      subst (λ n. IsLeastNext rows z n (get_or (b ∷ rest) j 0) (get_or rest j 0))
      (let e : suc (length rest) - suc j ≡ length rest - j = omega arith in e)
      (each (suc j) (omega arith))),
)

pub least_leads : (rows : List (List ℕ)) (z a : ℕ) (path : List ℕ) → Reaches rows z (suc (length path)) a
    → AreLeast rows z a path → Leads rows a path z
least_leads rows z a [] walk least = subst (λ i. Before rows a i) walk.2 walk.1
least_leads rows z a (b ∷ rest) walk least = let one = least.0 in
    (one.behind, least_leads rows z b rest one.reaches least.1)

pub least_first : (rows : List (List ℕ)) (z a : ℕ) (path other : List ℕ) → AreLeast rows z a path
    → Leads rows a other z → length other ≡ length path → IsNotAfter path other
least_first rows z a [] other least leads same = tt
least_first rows z a (b ∷ rest) [] least leads same = absurd (omega arith)
least_first rows z a (b ∷ rest) (y ∷ ys) least leads same =
    let one = least.0 in
    let count : length ys ≡ length rest = omega arith in
    let below : b ≤ y =
    one.least y leads.0
    (subst (λ n. Reaches rows z (suc n) y) count (leads_reaches rows y ys z leads.1)) in
    elim (cases_lt b y) [
      | inl less ↦ inl less
      | inr more ↦
          let equal : b ≡ y = omega arith in
          inr (
            equal,
            least_first rows z b rest ys least.1 (subst (λ i. Leads rows i ys z) (sym equal) leads.1) count,
          )
    ]

pub not_after : (rows : List (List ℕ)) (k s : ℕ) (path : List ℕ) → suc (length path) ≡ k
    → ((t : ℕ) → HasCycle rows t k → s ≤ t) → AreLeast rows s s path
    → (other : List ℕ) → IsRing rows other → length other ≡ k → IsNotAfter (s ∷ path) other
not_after rows k s path count lowest least [] ring same = absurd ring
not_after rows k s path count lowest least (t ∷ ts) ring same =
    let walk : Walk rows t k t =
    subst (λ n. Walk rows t n t) same
    (walk_reaches rows t (suc (length ts)) t (leads_reaches rows t ts t ring)) in
    let below : s ≤ t = lowest t (omega arith, walk) in
    elim (cases_lt s t) [
      | inl less ↦ inl less
      | inr more ↦
          let equal : s ≡ t = omega arith in
          let here : Leads rows s ts s = subst (λ i. Leads rows i ts i) (sym equal) ring in
          inr (equal, least_first rows s s path ts least here (omega arith))
    ]

-- the whole ring
pub first_ring : (rows : List (List ℕ)) (k s : ℕ) (path : List ℕ) → suc (length path) ≡ k → HasCycle rows s k
    → ((t : ℕ) → HasCycle rows t k → s ≤ t) → AreLeast rows s s path → IsFirstRing rows k (s ∷ path)
first_ring rows k s path count cycle lowest least = record {
  is_ring =
      least_leads rows s s path
      (subst (λ n. Reaches rows s n s) (sym count) (reaches_walk rows s k s cycle.1)) least;
  count = count;
  first = λ other ring same. not_after rows k s path count lowest least other ring same;
}

-- the same told by places
pub ring_is_first : (g : Graph) → ((t n : ℕ) → HasCycle g.rows t n → t < g.elements)
    → (k s : ℕ) (ring : List ℕ) → HasCycle g.rows s k
    → ((t : ℕ) → t < g.elements → HasCycle g.rows t k → s ≤ t) → length ring ≡ k → get_or ring 0 0 ≡ s
    → ((j : ℕ) → 0 < j → j < k → IsLeastNext g.rows s (k - j) (get_or ring (j - 1) 0) (get_or ring j 0))
    → IsFirstRing g.rows k ring
ring_is_first g known k s [] cycle lowest count here chosen = absurd (let h = cycle.0 in omega arith)
ring_is_first g known k s (a ∷ path) cycle lowest count here chosen =
    first_ring g.rows k a path count (subst (λ z. HasCycle g.rows z k) (sym here) cycle)
    (λ t other. let low = lowest t (known t k other) other in omega arith)
    (least_each g.rows a a path (λ j h.
    let one : IsLeastNext g.rows s (k - suc j) (get_or (a ∷ path) (suc j - 1) 0) (get_or path j 0) =
    chosen (suc j) (omega arith) (omega arith) in
    let two =
    subst (λ i. IsLeastNext g.rows s (k - suc j) (get_or (a ∷ path) i 0) (get_or path j 0))
    (let e : suc j - 1 ≡ j = omega arith in e) one in
    let three =
    subst (λ n. IsLeastNext g.rows s n (get_or (a ∷ path) j 0) (get_or path j 0))
    (let e : k - suc j ≡ length path - j = omega arith in e) two in
    subst (λ z. IsLeastNext g.rows z (length path - j) (get_or (a ∷ path) j 0) (get_or path j 0))
    (sym here) three))
