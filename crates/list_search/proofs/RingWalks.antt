-- Cycles as lists of elements, and cycles as walks.
use Rattle.std.proofs.Common.{◌≡◌, ℕ, zero, suc, ◌+◌, ◌-◌, ◌<◌, List, [], ◌∷◌, length, get_or, refl, sym, ap}
use Rattle.std.proofs.Common.{subst, arith}
use Rattle.list_search.specs.Graph.{Before}
use Rattle.list_search.specs.Rings.{IsRing, Leads, Reaches}
use Rattle.list_search.specs.Walks.{HasCycle}
use Rattle.list_search.proofs.Firsts.{leads_reaches, reaches_walk, walk_reaches}

-- one walk after another
pub reaches_both : (rows : List (List ℕ)) (x y z n m : ℕ) → Reaches rows y n x → Reaches rows z m y
    → Reaches rows z (n + m) x
reaches_both rows x y z zero m here walk =
    subst (λ i. Reaches rows z i x) (let e : m ≡ zero + m = omega arith in e)
    (subst (λ i. Reaches rows z m i) (sym here) walk)
reaches_both rows x y z (suc n) m first walk =
    subst (λ i. Reaches rows z i x) (let e : suc (n + m) ≡ suc n + m = omega arith in e)
    (first.0, first.1, reaches_both rows first.0 y z n m first.2 walk)

-- a list of elements, each before the next, cut at one of them
pub record IsWalkCut (rows : List (List ℕ)) (a z x n m : ℕ) : Type 0 where
  pub to : Reaches rows x n a
  pub on : Reaches rows z m x

pub leads_cut : (rows : List (List ℕ)) (a : ℕ) (path : List ℕ) (z j : ℕ) → Leads rows a path z
    → j < length path
    → IsWalkCut rows a z (get_or path j 0) (suc j) (length path - j)
leads_cut rows a [] z j leads inside = absurd (omega arith)
leads_cut rows a (b ∷ rest) z zero leads inside = record {
  to = (b, leads.0, refl);
  on = subst (λ n. Reaches rows z n b) (let e : suc (length rest) ≡ suc (length rest) - 0 = omega arith in
      e) (leads_reaches rows b rest z leads.1);
}
leads_cut rows a (b ∷ rest) z (suc j) leads inside =
    let cut = leads_cut rows b rest z j leads.1 (omega arith) in
    record {
      to = (b, leads.0, cut.to);
      on = subst (λ n. Reaches rows z n (get_or rest j 0)) (let e : length rest - j
          ≡ suc (length rest) - suc j = omega arith in e) cut.on;
    }

-- a cycle leads through each of its elements
pub ring_through : (rows : List (List ℕ)) (ring : List ℕ) (j : ℕ) → IsRing rows ring → j < length ring
    → HasCycle rows (get_or ring j 0) (length ring)
ring_through rows [] j ring inside = absurd ring
ring_through rows (a ∷ path) zero ring inside =
    (omega arith, walk_reaches rows a (suc (length path)) a (leads_reaches rows a path a ring))
ring_through rows (a ∷ path) (suc j) ring inside =
    let cut = leads_cut rows a path a j ring (omega arith) in
    let x : ℕ = get_or path j 0 in (
      omega arith,
      walk_reaches rows x (suc (length path)) x
          (subst (λ n. Reaches rows x n x) (let e : length path - j + suc j ≡ suc (length path) =
          omega arith in e)
          (reaches_both rows x a x (length path - j) (suc j) cut.on cut.to)),
    )

-- a walk of one step or more as a list of elements
pub record IsPath (rows : List (List ℕ)) (a z n : ℕ) : Type 0 where
  pub path : List ℕ
  pub leads : Leads rows a path z
  pub count : length path ≡ n

pub reaches_path : (rows : List (List ℕ)) (a z n : ℕ) → Reaches rows z (suc n) a → IsPath rows a z n
reaches_path rows a z zero walk =
    record { path = []; leads = subst (λ i. Before rows a i) walk.2 walk.1; count = refl }
reaches_path rows a z (suc n) walk =
    let rest = reaches_path rows walk.0 z n walk.2 in
    record { path = walk.0 ∷ rest.path; leads = (walk.1, rest.leads); count = ap suc rest.count }

pub record IsRingThrough (rows : List (List ℕ)) (s k : ℕ) : Type 0 where
  pub rest : List ℕ
  pub is_ring : IsRing rows (s ∷ rest)
  pub count : suc (length rest) ≡ k

pub cycle_ring : (rows : List (List ℕ)) (s k : ℕ) → HasCycle rows s k → IsRingThrough rows s k
cycle_ring rows s zero cycle = absurd (let h = cycle.0 in omega arith)
cycle_ring rows s (suc n) cycle =
    let path = reaches_path rows s s n (reaches_walk rows s (suc n) s cycle.1) in
    record { rest = path.path; is_ring = path.leads; count = ap suc path.count }
