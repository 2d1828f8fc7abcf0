-- Linked lists of edges: what follows a head, and what one edge more adds.
use Rattle.std.proofs.Common.{◌≡◌, ◌≢◌, ℕ, zero, suc, ◌+◌, ◌-◌, ◌<◌, ◌≤◌, ◌⊎◌, inl, inr, Bool, cond, eqb}
use Rattle.std.proofs.Common.{List, [], ◌∷◌, ◌++◌, length, get_or, set, replicate, refl, sym, ◌∙◌, ap, subst}
use Rattle.std.proofs.Common.{arith, get_or-set_same, get_or-set_other, length-append}
use Rattle.std.specs.Prelude.{◌↔◌, Contains, sum_by}
use native.Mathlib.Decide.{ℕ_discrete}
use Rattle.std.proofs.Math.Seq.{get_or-append_seam}
use Rattle.std.proofs.lemmas.Bool.{cases_lt, eq-eqb}
use Rattle.std.proofs.lemmas.Bool.Decides.{eqb_tells}
use Rattle.std.proofs.lemmas.List.{get_or-map, get_or_past, get_or_append_left, length-map, length-set}
use Rattle.std.proofs.lemmas.List.{get_or-replicate, length-replicate}
use Rattle.std.proofs.lemmas.List.Sums.{sum_by-cons}
use Rattle.specification.proofs.Members.{In, In-from_Contains, Contains-from_In}
use Rattle.order_graph.specs.Lists.{row}
use Rattle.witness_order.specs.declared.successors.Edge.{Edge}
use Rattle.witness_order.specs.Edges.{edge_at, linked, linked_from, linked_lists, occurrences, edges}
use Rattle.witness_order.specs.Edges.{indegree, AreFalling, AreLinked}
use Rattle.witness_order.proofs.Counting.{one_more}
use Rattle.witness_order.proofs.InTurn.{below, sum-more}

-- among the first edges
module _ (es : List Edge) where
  linked-other : (n k : ℕ) → k ≢ suc n → linked es (suc n) k ≡ linked es n k
  linked-other n k other = elim (eqb_tells k (suc n)) as (λ _. linked es (suc n) k ≡ linked es n k) [
    | inl h ↦ absurd (other h.1)
    | inr h ↦
        ap (λ (b : Bool). cond b ((edge_at es n).to ∷ linked es n (edge_at es n).next) (linked es n k)) h.0
  ]

  linked-here : (n : ℕ) → linked es (suc n) (suc n) ≡ (edge_at es n).to ∷ linked es n (edge_at es n).next
  linked-here n =
      ap
      (λ (b : Bool). cond b ((edge_at es n).to ∷ linked es n (edge_at es n).next) (linked es n (suc n)))
      (eq-eqb (suc n) (suc n) refl)

  pub linked-none : (n : ℕ) → linked es n 0 ≡ []
  linked-none zero = refl
  linked-none (suc n) =
      let other : 0 ≢ suc n = λ e. omega (arith, e) in linked-other n 0 other ∙ linked-none n

  -- no edge past the first one plays a part
  linked-fewer : (n m k : ℕ) → k ≤ m → m ≤ n → linked es n k ≡ linked es m k
  linked-fewer zero m k low high = let none : zero ≡ m = omega arith in ap (λ j. linked es j k) none
  linked-fewer (suc n) m k low high =
      let rest : m ≤ n → linked es n k ≡ linked es m k = linked-fewer n m k low in
      elim (ℕ_discrete m (suc n)) as (λ _. linked es (suc n) k ≡ linked es m k) [
        | yes e ↦ ap (λ j. linked es j k) (sym e)
        | no ne ↦
            (let less : m ≤ n = omega (arith, ne, high) in
            let other : k ≢ suc n = λ e. omega (arith, e, low, less) in
            linked-other n k other ∙ rest less)
      ]

  -- the edge with this number, and what it leads on to
  pub linked-step : (k : ℕ) → AreFalling es → 0 < k → k ≤ length es
      → linked_from es k ≡ (edge_at es (k - 1)).to ∷ linked_from es (edge_at es (k - 1)).next
  linked-step k falling some le =
      let i : ℕ = k - 1 in
      let at : k ≡ suc i = omega arith in
      let within : suc i ≤ length es = omega arith in
      let low : i ≤ length es = omega arith in
      let same : suc i ≤ suc i = omega arith in
      let falls : (edge_at es i).next ≤ i = falling i (omega arith) in
      ap (linked_from es) at ∙ linked-fewer (length es) (suc i) (suc i) same within ∙ linked-here i
      ∙ ap (λ l. (edge_at es i).to ∷ l) (sym (linked-fewer (length es) i (edge_at es i).next falls low))

  -- the list of an element; the empty one where it has no head
  pub row-linked : (hs : List ℕ) (x : ℕ) → row (linked_lists es hs) x ≡ linked_from es (get_or hs x 0)
  row-linked hs x =
      elim (cases_lt x (length hs)) as (λ _. row (linked_lists es hs) x ≡ linked_from es (get_or hs x 0)) [
        | inl lt ↦ get_or-map (linked_from es) hs x 0 [] lt
        | inr le ↦
            get_or_past (linked_lists es hs) x [] (omega (arith, le, length-map hs (linked_from es)))
            ∙ sym (linked-none (length es)) ∙ ap (linked_from es) (sym (get_or_past hs x 0 le))
      ]

-- with no edges each list is empty
pub no-edges : (es : List Edge) (hs : List ℕ) → length es ≡ 0 → (x y : ℕ)
    → Contains (row (linked_lists es hs) x) y → ⊥
no-edges es hs none x y h =
    let is : row (linked_lists es hs) x ≡ [] =
    row-linked es hs x ∙ ap (λ n. linked es n (get_or hs x 0)) none in
    subst (λ (l : List ℕ). In y l) is (In-from_Contains (row (linked_lists es hs) x) y h)

-- with no edges no element has a successor
zeros : (n x : ℕ) → get_or {A = ℕ} (replicate n 0) x 0 ≡ 0
zeros n x = elim (cases_lt x n) as (λ _. get_or {A = ℕ} (replicate n 0) x 0 ≡ 0) [
  | inl lt ↦ get_or-replicate n x 0 0 lt
  | inr le ↦
      get_or_past (replicate n 0) x 0 (let e : length (replicate {A = ℕ} n 0) ≡ n = length-replicate n 0 in
      omega (arith, e, le))
]

sum-zeros : (g : ℕ → ℕ) (xs : List ℕ) → ((z : ℕ) → g z ≡ 0) → sum_by g xs ≡ 0
sum-zeros g [] none = refl
sum-zeros g (x ∷ xs) none =
    let rest : sum_by g xs ≡ 0 = sum-zeros g xs none in omega (arith, sum_by-cons g x xs, none x, rest)

pub linked-empty : (n : ℕ) → AreLinked [] (replicate n 0) (replicate n 0)
linked-empty n = record {
  size = refl;
  falling = λ i lt. absurd (omega (arith, lt));
  within = λ x. omega (arith, zeros n x);
  counted = λ y lt.
      zeros n y
      ∙ sym (sum-zeros (λ x. edges (linked_lists [] (replicate n 0)) x y)
      (below (length (replicate {A = ℕ} n 0)))
      (λ x. ap (λ (l : List ℕ). occurrences l y) (row-linked [] (replicate n 0) x)));
  few = λ y. omega (arith, zeros n y);
}

-- where the edge at x's head leads is in x's list already
pub listed-again : (es : List Edge) (hs ds : List ℕ) (x y : ℕ) → AreLinked es hs ds → 0 < get_or hs x 0
    → (edge_at es (get_or hs x 0 - 1)).to ≡ y → (z w : ℕ) → Contains (row (linked_lists es hs) z) w
    ↔ (Contains (row (linked_lists es hs) z) w ⊎ ((z ≡ x) × (w ≡ y)))
listed-again es hs ds x y are some is z w = (
  λ c. inl c,
  λ s. elim s [
    | inl c ↦ c
    | inr p ↦
        (let e : Edge = edge_at es (get_or hs x 0 - 1) in
        let list : row (linked_lists es hs) x ≡ e.to ∷ linked_from es e.next =
        row-linked es hs x ∙ linked-step es (get_or hs x 0) are.falling some (are.within x) in
        let in_list : In w (row (linked_lists es hs) x) =
        subst (λ (l : List ℕ). In w l) (sym list) (inl (p.1 ∙ sym is)) in
        subst (λ k. Contains (row (linked_lists es hs) k) w) (sym p.0)
        (Contains-from_In (row (linked_lists es hs) x) w in_list))
  ],
)

-- the sums of two functions that differ at one number
sum-same : (f g : ℕ → ℕ) (n : ℕ) → ((z : ℕ) → z < n → g z ≡ f z) → sum_by g (below n) ≡ sum_by f (below n)
sum-same f g zero same = refl
sum-same f g (suc n) same =
    let at : suc n ≡ n + 1 = omega arith in
    let rest : sum_by g (below n) ≡ sum_by f (below n) =
    sum-same f g n (λ z lt. same z (omega (arith, lt))) in
    let here : g n ≡ f n = same n (omega arith) in
    omega (
      arith,
      ap (λ m. sum_by g (below m)) at,
      ap (λ m. sum_by f (below m)) at,
      sum-more f n,
      sum-more g n,
      rest,
      here,
    )

sum-changed : (f g : ℕ → ℕ) (x d n : ℕ) → x < n → g x ≡ f x + d → ((z : ℕ) → z ≢ x → g z ≡ f z)
    → sum_by g (below n) ≡ sum_by f (below n) + d
sum-changed f g x d zero lt here other = absurd (omega arith)
sum-changed f g x d (suc n) lt here other =
    let rest : x < n → sum_by g (below n) ≡ sum_by f (below n) + d =
    λ less. sum-changed f g x d n less here other in
    let at : suc n ≡ n + 1 = omega arith in
    let old : sum_by f (below (suc n)) ≡ sum_by f (below n) + f n =
    ap (λ m. sum_by f (below m)) at ∙ sum-more f n in
    let new : sum_by g (below (suc n)) ≡ sum_by g (below n) + g n =
    ap (λ m. sum_by g (below m)) at ∙ sum-more g n in
    elim (ℕ_discrete n x) as (λ _. sum_by g (below (suc n)) ≡ sum_by f (below (suc n)) + d) [
      | yes e ↦
          (let last : g n ≡ f n + d = subst (λ z. g z ≡ f z + d) (sym e) here in
          let same : sum_by g (below n) ≡ sum_by f (below n) =
          sum-same f g n (λ z less. other z (λ is. omega (arith, less, is, e))) in
          omega (arith, old, new, last, same))
      | no ne ↦
          (let less : x < n = omega (arith, ne, lt) in
          omega (arith, old, new, rest less, other n ne))
    ]

-- one edge more
module _ (es : List Edge) (e : Edge) where
  length-more : length (es ++ e ∷ []) ≡ suc (length es)
  length-more = let long : length (es ++ e ∷ []) ≡ length es + length (e ∷ []) = length-append es (e ∷ []) in
      omega (arith, long)

  edge-kept : (i : ℕ) → i < length es → edge_at (es ++ e ∷ []) i ≡ edge_at es i
  edge-kept i lt = get_or_append_left es (e ∷ []) (record { to = 0; next = 0 }) i lt

  edge-here : edge_at (es ++ e ∷ []) (length es) ≡ e
  edge-here = get_or-append_seam es e [] (record { to = 0; next = 0 })

  linked-kept : (n k : ℕ) → n ≤ length es → linked (es ++ e ∷ []) n k ≡ linked es n k
  linked-kept zero k le = refl
  linked-kept (suc n) k le =
      let low : n ≤ length es = omega arith in
      let lt : n < length es = omega arith in
      let next : ℕ = (edge_at es n).next in
      let followed : linked (es ++ e ∷ []) n next ≡ linked es n next = linked-kept n next low in
      let others : linked (es ++ e ∷ []) n k ≡ linked es n k = linked-kept n k low in
      ap (λ (f : Edge). cond (eqb k (suc n)) (f.to ∷ linked (es ++ e ∷ []) n f.next)
      (linked (es ++ e ∷ []) n k)) (edge-kept n lt)
      ∙ ap (λ l. cond (eqb k (suc n)) ((edge_at es n).to ∷ l) (linked (es ++ e ∷ []) n k)) followed
      ∙ ap (λ l. cond (eqb k (suc n)) ((edge_at es n).to ∷ linked es n next) l) others

  -- it is the head of x, and leads on to the head before
  module _ (hs ds : List ℕ) (x : ℕ) (within : x < length hs) (known : e.to < length hs)
      (next : e.next ≡ get_or hs x 0) (are : AreLinked es hs ds) where
    abbrev pub heads_after : List ℕ
    heads_after = set hs x (length es + 1)

    abbrev pub lists_after : List (List ℕ)
    lists_after = linked_lists (es ++ e ∷ []) heads_after

    falling-after : AreFalling (es ++ e ∷ [])
    falling-after i lt = elim (cases_lt i (length es)) [
      | inl less ↦ subst (λ (f : Edge). f.next ≤ i) (sym (edge-kept i less)) (are.falling i less)
      | inr le ↦
          (let at : length es ≡ i = omega (arith, le, lt, length-more) in
          subst (λ k. (edge_at (es ++ e ∷ []) k).next ≤ k) at
          (subst (λ (f : Edge). f.next ≤ length es) (sym edge-here) (omega (arith, next, are.within x))))
    ]

    newest : linked_from (es ++ e ∷ []) (length es + 1) ≡ e.to ∷ linked_from (es ++ e ∷ []) e.next
    newest =
        let low : length es + 1 ≤ length (es ++ e ∷ []) = omega (arith, length-more) in
        let at : length es + 1 - 1 ≡ length es = omega arith in
        linked-step (es ++ e ∷ []) (length es + 1) falling-after (omega arith) low
        ∙ ap (λ (f : Edge). f.to ∷ linked_from (es ++ e ∷ []) f.next)
        (ap (edge_at (es ++ e ∷ [])) at ∙ edge-here)

    linked-after : (k : ℕ) → k ≤ length es → linked_from (es ++ e ∷ []) k ≡ linked_from es k
    linked-after k le =
        let fewer : length es ≤ length (es ++ e ∷ []) = omega (arith, length-more) in
        let low : length es ≤ length es = omega arith in
        linked-fewer (es ++ e ∷ []) (length (es ++ e ∷ [])) (length es) k le fewer
        ∙ linked-kept (length es) k low

    row-here : row lists_after x ≡ e.to ∷ row (linked_lists es hs) x
    row-here =
        let head : e.next ≤ length es = omega (arith, next, are.within x) in
        row-linked (es ++ e ∷ []) heads_after x
        ∙ ap (linked_from (es ++ e ∷ [])) (get_or-set_same hs x (length es + 1) 0 within)
        ∙ newest
        ∙ ap (λ l. e.to ∷ l)
        (linked-after e.next head ∙ ap (linked_from es) next ∙ sym (row-linked es hs x))

    row-other : (z : ℕ) → z ≢ x → row lists_after z ≡ row (linked_lists es hs) z
    row-other z other =
        row-linked (es ++ e ∷ []) heads_after z
        ∙ ap (linked_from (es ++ e ∷ [])) (get_or-set_other hs x z (length es + 1) 0 other)
        ∙ linked-after (get_or hs z 0) (are.within z) ∙ sym (row-linked es hs z)

    pub listed-more : (z w : ℕ) → Contains (row lists_after z) w
        ↔ (Contains (row (linked_lists es hs) z) w ⊎ ((z ≡ x) × (w ≡ e.to)))
    listed-more z w = elim (ℕ_discrete z x) [
      | yes at ↦
          (let is : row lists_after z ≡ e.to ∷ row (linked_lists es hs) z =
          subst (λ k. row lists_after k ≡ e.to ∷ row (linked_lists es hs) k) (sym at) row-here in (
            λ c. elim (subst (λ (l : List ℕ). In w l) is (In-from_Contains (row lists_after z) w c)) [
              | inl same ↦ inr (at, same)
              | inr old ↦ inl (Contains-from_In (row (linked_lists es hs) z) w old)
            ],
            λ s. Contains-from_In (row lists_after z) w (subst (λ (l : List ℕ). In w l) (sym is) (elim s [
              | inl old ↦ inr (In-from_Contains (row (linked_lists es hs) z) w old)
              | inr p ↦ inl p.1
            ])),
          ))
      | no other ↦
          (let is : row lists_after z ≡ row (linked_lists es hs) z = row-other z other in (
            λ c. inl (subst (λ (l : List ℕ). Contains l w) is c),
            λ s. elim s [
              | inl old ↦ subst (λ (l : List ℕ). Contains l w) (sym is) old
              | inr p ↦ absurd (other p.0)
            ],
          ))
    ]

    counted-more : (y n : ℕ) → x < n → indegree lists_after (below n) y
        ≡ indegree (linked_lists es hs) (below n) y + cond (eqb e.to y) 1 0
    counted-more y n lt =
        let here : edges lists_after x y ≡ edges (linked_lists es hs) x y + cond (eqb e.to y) 1 0 =
        omega (
          arith,
          ap (λ (l : List ℕ). occurrences l y) row-here,
          sum_by-cons (λ (z : ℕ). cond (eqb z y) 1 0) e.to (row (linked_lists es hs) x),
        ) in
        sum-changed (λ z. edges (linked_lists es hs) z y) (λ z. edges lists_after z y) x
        (cond (eqb e.to y) 1 0) n lt here
        (λ z other. ap (λ (l : List ℕ). occurrences l y) (row-other z other))

    pub linked-more : AreLinked (es ++ e ∷ []) heads_after (set ds e.to (get_or ds e.to 0 + 1))
    linked-more =
        let counts : List ℕ = set ds e.to (get_or ds e.to 0 + 1) in
        let many : length heads_after ≡ length hs = length-set hs x (length es + 1) in
        let to : e.to < length ds = omega (arith, known, are.size) in
        let one : (y : ℕ) → get_or counts y 0 ≡ get_or ds y 0 + cond (eqb e.to y) 1 0 =
        one_more ds counts e.to to refl in
        record {
          size = omega (arith, many, are.size, length-set ds e.to (get_or ds e.to 0 + 1));
          falling = falling-after;
          within = λ z. elim (ℕ_discrete z x) [
            | yes at ↦
                (let is : get_or heads_after z 0 ≡ length es + 1 =
                ap (λ k. get_or heads_after k 0) at ∙ get_or-set_same hs x (length es + 1) 0 within in
                omega (arith, is, length-more))
            | no other ↦
                omega (
                  arith,
                  get_or-set_other hs x z (length es + 1) 0 other,
                  are.within z,
                  length-more,
                )
          ];
          counted = λ y lt.
              let low : y < length hs = omega (arith, lt, many) in
              let sums : indegree lists_after (below (length heads_after)) y
              ≡ indegree lists_after (below (length hs)) y =
              ap (λ n. indegree lists_after (below n) y) many in
              omega (arith, one y, are.counted y low, counted-more y (length hs) within, sums);
          few = λ y.
              let bit : cond {A = ℕ} (eqb e.to y) 1 0 ≤ 1 = elim (eqb_tells e.to y) [
                | inl h ↦ omega (arith, ap (λ (b : Bool). cond {A = ℕ} b 1 0) h.0)
                | inr h ↦ omega (arith, ap (λ (b : Bool). cond {A = ℕ} b 1 0) h.0)
              ] in
              omega (arith, one y, are.few y, length-more, bit);
        }
