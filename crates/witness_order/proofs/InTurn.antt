-- Taking each time the least element that no edge from an element left leads to: what is taken, followed by
-- the first order of what is left, is the first order of all. Where nothing can be taken, what is left has a
-- closed walk.
use Rattle.std.proofs.Common.{◌≡◌, ℕ, zero, suc, ◌+◌, ◌<◌, ◌≤◌, ◌⊎◌, inl, inr, List, [], ◌∷◌, ◌++◌, length}
use Rattle.std.proofs.Common.{get_or, sum_by, refl, sym, ◌∙◌, arith, ap, subst, length-append, append_assoc}
use Rattle.std.specs.List.{range_with_len}
use Rattle.std.proofs.lemmas.Bool.{cases_lt}
use Rattle.std.proofs.lemmas.List.{append-nil}
use Rattle.std.proofs.lemmas.List.FromFn.{length-range_with_len}
use Rattle.std.proofs.lemmas.List.Sums.{sum_by-cons, sum_by-append, sum_by_push}
use native.Mathlib.Decide.{ℕ_discrete}
use Rattle.specification.proofs.Members.{In, Before, Once, In-split, In-round, In-middle, In-wider}
use Rattle.specification.proofs.Members.{In-append_left, In-append_right, In-append_cases, Before-wider}
use Rattle.specification.proofs.Members.{Once-rest, Once-middle}
use Rattle.specification.proofs.Walks.{Closed}
use Rattle.specification.proofs.OrderOrCycle.{Orders, Rises, IsFirstOrder, HasStepTo, DecidesSteps, put_first}
use Rattle.specification.proofs.OrderOrCycle.{stays_first, grow}

-- an edge leads from a to b
abbrev pub Leads : (ℕ → ℕ → ℕ) → Unit {0} → ℕ → ℕ → Type 0
Leads E l a b = 1 ≤ E a b

-- the numbers below n
abbrev pub below : ℕ → List ℕ
below n = range_with_len 0 n

-- a first order of these
pub record IsFirst (E : ℕ → ℕ → ℕ) (xs order : List ℕ) : Type 0 where
  pub orders : Orders (Leads E) xs order
  pub first : IsFirstOrder (Leads E) (λ z. z) xs order

-- some are taken and the others left. What leads to one that is taken was taken earlier. Of those left, the
-- free ones have no edge from one left.
pub record InTurn (E : ℕ → ℕ → ℕ) (n : ℕ) (taken free degrees : List ℕ) : Type 0 where
  pub left : List ℕ
  pub once : Once left
  pub rises : Rises (λ z. z) left
  pub extends : (rest : List ℕ) → IsFirst E left rest → IsFirst E (below n) (taken ++ rest)
  pub size : length taken + length left ≡ n
  pub parts : (z : ℕ) → z < n → In z taken ⊎ In z left
  pub taken_once : Once taken
  pub elsewhere : (z : ℕ) → In z taken → In z left → ⊥
  pub earlier : (y z : ℕ) → y < n → In z taken → 1 ≤ E y z → Before y z taken
  pub taken_below : (z : ℕ) → In z taken → z < n
  pub left_below : (z : ℕ) → In z left → z < n
  pub taken_zero : (z : ℕ) → In z taken → get_or degrees z 0 ≡ 0
  pub counted : (y : ℕ) → y < n → get_or degrees y 0 ≡ sum_by (λ x. E x y) left
  pub free_left : (z : ℕ) → In z free → In z left
  pub free_zero : (z : ℕ) → In z free → get_or degrees z 0 ≡ 0
  pub zero_free : (z : ℕ) → In z left → get_or degrees z 0 ≡ 0 → In z free

-- the edges of x are gone, and what has none any more is free too
pub record AreRemoved (E : ℕ → ℕ → ℕ) (n x : ℕ) (degrees free lowered more : List ℕ) : Type 0 where
  pub lowered_by : (y : ℕ) → y < n → get_or lowered y 0 + E x y ≡ get_or degrees y 0
  pub stays_free : (z : ℕ) → In z free → In z more
  pub gets_free : (z : ℕ) → z < n → 0 < get_or degrees z 0 → get_or lowered z 0 ≡ 0 → In z more
  pub only_free : (z : ℕ) → In z more
      → In z free ⊎ ((z < n) × (0 < get_or degrees z 0) × (get_or lowered z 0 ≡ 0))

some_term : (f : ℕ → ℕ) (xs : List ℕ) → 1 ≤ sum_by f xs → (z : ℕ) × In z xs × (1 ≤ f z)
some_term f [] h = absurd (omega arith)
some_term f (x ∷ xs) h = go (cases_lt 0 (f x)) (some_term f xs)
  where
    go : (0 < f x) ⊎ (f x ≤ 0) → (1 ≤ sum_by f xs → (z : ℕ) × In z xs × (1 ≤ f z))
        → (z : ℕ) × In z (x ∷ xs) × (1 ≤ f z)
    go (inl lt) rest = (x, inl refl, omega arith)
    go (inr none) rest = let s : (z : ℕ) × In z xs × (1 ≤ f z) = rest (omega (arith, sum_by-cons f x xs)) in
        (s.0, inr s.1, s.2)

pub term_le : (f : ℕ → ℕ) (xs : List ℕ) (z : ℕ) → In z xs → f z ≤ sum_by f xs
term_le f [] z i = absurd i
term_le f (x ∷ xs) z (inl e) = let same : f z ≡ f x = ap f e in omega (arith, sum_by-cons f x xs)
term_le f (x ∷ xs) z (inr i) = let rest : f z ≤ sum_by f xs = term_le f xs z i in
    omega (arith, sum_by-cons f x xs)

sum_round : (f : ℕ → ℕ) (l r : List ℕ) (x : ℕ) → sum_by f (l ++ x ∷ r) ≡ f x + sum_by f (l ++ r)
sum_round f l r x =
    let whole : sum_by f (l ++ x ∷ r) ≡ sum_by f l + sum_by f (x ∷ r) = sum_by-append f l (x ∷ r) in
    let rest : sum_by f (l ++ r) ≡ sum_by f l + sum_by f r = sum_by-append f l r in
    omega (arith, sum_by-cons f x r)

Before-middle : (y x : ℕ) (l r : List ℕ) → In y l → Before y x (l ++ x ∷ r)
Before-middle y x [] r i = absurd i
Before-middle y x (z ∷ l) r (inl e) = inl (e, In-middle x l r)
Before-middle y x (z ∷ l) r (inr i) = inr (Before-middle y x l r i)

Before-append : (y z : ℕ) (l r : List ℕ) → Before y z l → Before y z (l ++ r)
Before-append y z [] r h = absurd h
Before-append y z (w ∷ l) r (inl p) = inl (p.0, In-append_left z l r p.1)
Before-append y z (w ∷ l) r (inr h) = inr (Before-append y z l r h)

Once-push : (x : ℕ) (l : List ℕ) → Once l → (In x l → ⊥) → Once (l ++ x ∷ [])
Once-push x [] o out = (λ i. i, tt)
Once-push x (w ∷ l) o out = (
  λ i. elim (In-append_cases w l (x ∷ []) i) [
    | inl j ↦ o.0 j
    | inr (inl e) ↦ out (inl (sym e))
    | inr (inr j) ↦
        absurd j
  ],
  Once-push x l o.1 (λ j. out (inr j)),
)

In-range : (a n z : ℕ) → In z (range_with_len a n) → (a ≤ z) × (z < a + n)
In-range a zero z i = absurd i
In-range a (suc n) z (inl e) = (omega arith, omega arith)
In-range a (suc n) z (inr i) = let s : (a + 1 ≤ z) × (z < a + 1 + n) = In-range (a + 1) n z i in
    (omega (arith, s.0), omega (arith, s.1))

range-In : (a n z : ℕ) → a ≤ z → z < a + n → In z (range_with_len a n)
range-In a zero z le lt = absurd (omega arith)
range-In a (suc n) z le lt = go (ℕ_discrete z a) (range-In (a + 1) n z)
  where
    go : Dec (z ≡ a) → (a + 1 ≤ z → z < a + 1 + n → In z (range_with_len (a + 1) n))
        → In z (range_with_len a (suc n))
    go (yes e) rest = inl e
    go (no ne) rest = inr (rest (omega arith) (omega arith))

Once-range : (a n : ℕ) → Once (range_with_len a n)
Once-range a zero = tt
Once-range a (suc n) = (
  λ i. let s : (a + 1 ≤ a) × (a < a + 1 + n) = In-range (a + 1) n a i in
      omega (arith, s.0),
  Once-range (a + 1) n,
)

Rises-range : (a n x y : ℕ) → Before x y (range_with_len a n) → x < y
Rises-range a zero x y h = absurd h
Rises-range a (suc n) x y (inl p) = let s : (a + 1 ≤ y) × (y < a + 1 + n) = In-range (a + 1) n y p.1 in
    omega (arith, s.0, p.0)
Rises-range a (suc n) x y (inr h) = Rises-range (a + 1) n x y h

range-more : (a n : ℕ) → range_with_len a (suc n) ≡ range_with_len a n ++ (a + n) ∷ []
range-more a zero = ap (λ m. m ∷ []) (let e : a ≡ a + 0 = omega arith in e)
range-more a (suc n) =
    ap (λ l. a ∷ l) (range-more (a + 1) n
    ∙ ap (λ m. range_with_len (a + 1) n ++ m ∷ []) (let e : a + 1 + n ≡ a + suc n = omega arith in e))

-- the sum over one number more
pub sum-more : (f : ℕ → ℕ) (n : ℕ) → sum_by f (below (n + 1)) ≡ sum_by f (below n) + f n
sum-more f n =
    ap (sum_by f) (ap below (let e : n + 1 ≡ suc n = omega arith in e) ∙ range-more 0 n
    ∙ ap (λ m. below n ++ m ∷ []) (let e : 0 + n ≡ n = omega arith in e))
    ∙ sum_by_push f (below n) n

pub below-In : (n z : ℕ) → z < n → In z (below n)
below-In n z lt = range-In 0 n z (omega arith) (omega arith)

pub In-below : (n z : ℕ) → In z (below n) → z < n
In-below n z i = let s : (0 ≤ z) × (z < 0 + n) = In-range 0 n z i in omega (arith, s.1)

pub Once-below : (n : ℕ) → Once (below n)
Once-below n = Once-range 0 n

module _ (E : ℕ → ℕ → ℕ) (n : ℕ) where
  -- at the start nothing is taken
  pub begins : (free degrees : List ℕ)
      → ((y : ℕ) → y < n → get_or degrees y 0 ≡ sum_by (λ x. E x y) (below n)) →
      ((z : ℕ) → In z free → (z < n) × (get_or degrees z 0 ≡ 0))
      → ((z : ℕ) → z < n → get_or degrees z 0 ≡ 0 → In z free) → InTurn E n [] free degrees
  begins free degrees counted only all = record {
    left = below n;
    once = Once-below n;
    rises = Rises-range 0 n;
    extends = λ rest is. is;
    size = omega (arith, length-range_with_len 0 n);
    parts = λ z lt. inr (below-In n z lt);
    taken_once = tt;
    elsewhere = λ z i j. i;
    earlier = λ y z lt i h. i;
    taken_below = λ z i. absurd i;
    left_below = In-below n;
    taken_zero = λ z i. absurd i;
    counted = counted;
    free_left = λ z i. below-In n z (only z i).0;
    free_zero = λ z i. (only z i).1;
    zero_free = λ z i e. all z (In-below n z i) e;
  }

  -- the least free one goes next
  module _ (taken free degrees : List ℕ) (x : ℕ) (lowered more : List ℕ)
      (state : InTurn E n taken (x ∷ free) degrees) (least : (z : ℕ) → In z free → x < z)
      (removed : AreRemoved E n x degrees free lowered more) where
    free_first : (l r : List ℕ) → state.left ≡ l ++ x ∷ r → HasStepTo (Leads E) (l ++ x ∷ r) x → ⊥
    free_first l r is step =
        let none : get_or degrees x 0 ≡ 0 = state.free_zero x (inl refl) in
        let all : get_or degrees x 0 ≡ sum_by (λ z. E z x) state.left =
        state.counted x (state.left_below x (state.free_left x (inl refl))) in
        let one : E step.0 x ≤ sum_by (λ z. E z x) (l ++ x ∷ r) =
        term_le (λ z. E z x) (l ++ x ∷ r) step.0 step.1 in
        omega (arith, ap (sum_by (λ z. E z x)) is, step.3)

    led_before : (l r : List ℕ) → state.left ≡ l ++ x ∷ r → (y : ℕ) → In y l
        → HasStepTo (Leads E) (l ++ x ∷ r) y
    led_before l r is y i = go (cases_lt 0 (get_or degrees y 0))
      where
        there : In y state.left
        there = subst (λ zs. In y zs) (sym is) (In-append_left y l (x ∷ r) i)

        less : y < x
        less = state.rises y x (subst (λ zs. Before y x zs) (sym is) (Before-middle y x l r i))

        go : (0 < get_or degrees y 0) ⊎ (get_or degrees y 0 ≤ 0) → HasStepTo (Leads E) (l ++ x ∷ r) y
        go (inl lt) =
            let all : get_or degrees y 0 ≡ sum_by (λ z. E z y) state.left =
            state.counted y (state.left_below y there) in
            let s : (z : ℕ) × In z (l ++ x ∷ r) × (1 ≤ E z y) =
            some_term (λ z. E z y) (l ++ x ∷ r) (omega (arith, ap (sum_by (λ z. E z y)) is)) in
            (s.0, s.1, tt, s.2)
        go (inr none) = elim (state.zero_free y there (omega arith)) [
          | inl e ↦ absurd (omega (arith, less, e))
          | inr j ↦ (let above : x < y = least y j in absurd (omega (arith, less)))
        ]

    extends_next : (l r : List ℕ) → state.left ≡ l ++ x ∷ r → (rest : List ℕ) → IsFirst E (l ++ r) rest
        → IsFirst E (below n) ((taken ++ x ∷ []) ++ rest)
    extends_next l r is rest f =
        let once : Once (l ++ x ∷ r) = subst Once is state.once in
        let rises : Rises (λ z. z) (l ++ x ∷ r) = subst (Rises (λ z. z)) is state.rises in
        let whole : IsFirst E (l ++ x ∷ r) (x ∷ rest) = record {
          orders = put_first (Leads E) l r rest x once (free_first l r is) f.orders;
          first = stays_first (Leads E) (λ z. z) l r rest x once rises (led_before l r is) f.first;
        } in
        subst (λ zs. IsFirst E (below n) zs) (sym (append_assoc taken (x ∷ []) rest))
        (state.extends (x ∷ rest) (subst (λ zs. IsFirst E zs (x ∷ rest)) (sym is) whole))

    lower_zero : (z : ℕ) → z < n → get_or degrees z 0 ≡ 0 → get_or lowered z 0 ≡ 0
    lower_zero z lt none = omega (arith, removed.lowered_by z lt)

    taken_next : (z : ℕ) → In z (taken ++ x ∷ []) → (z < n) × (get_or degrees z 0 ≡ 0)
    taken_next z i = elim (In-append_cases z taken (x ∷ []) i) [
      | inl j ↦ (state.taken_below z j, state.taken_zero z j)
      | inr (inl e) ↦
          subst (λ w. (w < n) × (get_or degrees w 0 ≡ 0)) (sym e)
          (state.left_below x (state.free_left x (inl refl)), state.free_zero x (inl refl))
      | inr (inr j) ↦ absurd j
    ]

    taken_once_next : Once (taken ++ x ∷ [])
    taken_once_next =
        Once-push x taken state.taken_once (λ i. state.elsewhere x i (state.free_left x (inl refl)))

    elsewhere_next : (l r : List ℕ) → state.left ≡ l ++ x ∷ r → (z : ℕ) → In z (taken ++ x ∷ [])
        → In z (l ++ r) → ⊥
    elsewhere_next l r is z i j = elim (In-append_cases z taken (x ∷ []) i) [
      | inl k ↦ state.elsewhere z k (subst (λ zs. In z zs) (sym is) (In-wider x z l r j))
      | inr (inl e) ↦ Once-middle x l r (subst Once is state.once) (subst (λ w. In w (l ++ r)) e j)
      | inr (inr k) ↦ absurd k
    ]

    -- what leads to x is not left, since x is free
    earlier_next : (y z : ℕ) → y < n → In z (taken ++ x ∷ []) → 1 ≤ E y z → Before y z (taken ++ x ∷ [])
    earlier_next y z lt i h = elim (In-append_cases z taken (x ∷ []) i) [
      | inl k ↦ Before-append y z taken (x ∷ []) (state.earlier y z lt k h)
      | inr (inl e) ↦
          subst (λ w. Before y w (taken ++ x ∷ [])) (sym e)
          (Before-middle y x taken [] (elim (state.parts y lt) [
            | inl k ↦ k
            | inr k ↦ (
                let there : x < n = state.left_below x (state.free_left x (inl refl)) in
                let le : E y x ≤ sum_by (λ w. E w x) state.left = term_le (λ w. E w x) state.left y k in
                absurd (omega (
                  arith,
                  le,
                  state.counted x there,
                  state.free_zero x (inl refl),
                  subst (λ w. 1 ≤ E y w) e h,
                ))
                )
          ]))
      | inr (inr k) ↦ absurd k
    ]

    -- what is free and not x is left
    still_left : (l r : List ℕ) → state.left ≡ l ++ x ∷ r → (z : ℕ) → In z state.left → (z ≡ x → ⊥)
        → In z (l ++ r)
    still_left l r is z i other =
        elim (In-round x z l r (subst (λ zs. In z zs) is i)) [ inl e ↦ absurd (other e) | inr j ↦ j ]

    free_next : (l r : List ℕ) → state.left ≡ l ++ x ∷ r → (z : ℕ) → In z more
        → In z (l ++ r) × (get_or lowered z 0 ≡ 0)
    free_next l r is z i = go (removed.only_free z i)
      where
        go : In z free ⊎ ((z < n) × (0 < get_or degrees z 0) × (get_or lowered z 0 ≡ 0))
            → In z (l ++ r) × (get_or lowered z 0 ≡ 0)
        go (inl j) =
            let there : In z state.left = state.free_left z (inr j) in
            let lt : x < z = least z j in (
              still_left l r is z there (λ e. omega arith),
              lower_zero z (state.left_below z there) (state.free_zero z (inr j)),
            )
        go (inr g) = (
          elim (state.parts z g.0) [
            | inl j ↦
                (let none : get_or degrees z 0 ≡ 0 = state.taken_zero z j in absurd (omega (arith, g.1)))
            | inr j ↦
                still_left l r is z j (λ e. let none : get_or degrees z 0 ≡ 0 =
                subst (λ w. get_or degrees w 0 ≡ 0) (sym e) (state.free_zero x (inl refl)) in
                omega (arith, g.1))
          ],
          g.2,
        )

    zero_next : (l r : List ℕ) → state.left ≡ l ++ x ∷ r → (z : ℕ) → In z (l ++ r) → get_or lowered z 0 ≡ 0
        → In z more
    zero_next l r is z i none = go (cases_lt 0 (get_or degrees z 0))
      where
        there : In z state.left
        there = subst (λ zs. In z zs) (sym is) (In-wider x z l r i)

        go : (0 < get_or degrees z 0) ⊎ (get_or degrees z 0 ≤ 0) → In z more
        go (inl lt) = removed.gets_free z (state.left_below z there) lt none
        go (inr le) = elim (state.zero_free z there (omega arith)) [
          | inl e ↦ absurd (Once-middle x l r (subst Once is state.once) (subst (λ w. In w (l ++ r)) e i))
          | inr j ↦ removed.stays_free z j
        ]

    counted_next : (l r : List ℕ) → state.left ≡ l ++ x ∷ r → (y : ℕ) → y < n
        → get_or lowered y 0 ≡ sum_by (λ z. E z y) (l ++ r)
    counted_next l r is y lt =
        let before : get_or degrees y 0 ≡ sum_by (λ z. E z y) state.left = state.counted y lt in
        omega (arith, removed.lowered_by y lt, ap (sum_by (λ z. E z y)) is, sum_round (λ z. E z y) l r x)

    pub next : InTurn E n (taken ++ x ∷ []) more lowered
    next =
        let s : (l : List ℕ) × (r : List ℕ) × (state.left ≡ l ++ x ∷ r) =
        In-split x state.left (state.free_left x (inl refl)) in
        record {
          left = s.0 ++ s.1;
          once = Once-rest x s.0 s.1 (subst Once s.2 state.once);
          rises = λ a b h. state.rises a b
              (subst (λ zs. Before a b zs) (sym s.2) (Before-wider x a b s.0 s.1 h));
          extends = extends_next s.0 s.1 s.2;
          size = omega (arith, state.size, ap (λ (l : List ℕ). length l) s.2, length-append {A = ℕ});
          parts = λ z lt. elim (state.parts z lt) [
            | inl i ↦ inl (In-append_left z taken (x ∷ []) i)
            | inr i ↦
                elim (In-round x z s.0 s.1 (subst (λ zs. In z zs) s.2 i)) [
                  | inl e ↦
                      inl (In-append_right z taken (x ∷ []) (inl e))
                  | inr j ↦ inr j
                ]
          ];
          taken_once = taken_once_next;
          elsewhere = elsewhere_next s.0 s.1 s.2;
          earlier = earlier_next;
          taken_below = λ z i. (taken_next z i).0;
          left_below = λ z i. state.left_below z (subst (λ zs. In z zs) (sym s.2) (In-wider x z s.0 s.1 i));
          taken_zero = λ z i. lower_zero z (taken_next z i).0 (taken_next z i).1;
          counted = counted_next s.0 s.1 s.2;
          free_left = λ z i. (free_next s.0 s.1 s.2 z i).0;
          free_zero = λ z i. (free_next s.0 s.1 s.2 z i).1;
          zero_free = zero_next s.0 s.1 s.2;
        }

  pub less_taken : (taken free degrees : List ℕ) (x : ℕ) → InTurn E n taken (x ∷ free) degrees
      → length taken < n
  less_taken taken free degrees x state =
      let s : (l : List ℕ) × (r : List ℕ) × (state.left ≡ l ++ x ∷ r) =
      In-split x state.left (state.free_left x (inl refl)) in
      omega (arith, state.size, ap (λ (l : List ℕ). length l) s.2, length-append {A = ℕ})

  empty_is_first : IsFirst E [] []
  empty_is_first = record {
    orders = record { once = tt; only = λ z i. i; all = λ z i. i; forwards = λ l a b i j s. i };
    first = λ other o less. go other o less;
  }
    where
      go : IsFirstOrder (Leads E) (λ z. z) [] []
      go [] o less = Prim.cc
      go (y ∷ ys) o less = o.only y (inl refl)

  -- where all are taken, they are in the first order
  pub ends_first : (taken free degrees : List ℕ) → InTurn E n taken free degrees → length taken ≡ n
      → IsFirst E (below n) taken
  ends_first taken free degrees state all = go state.left state.size state.extends
    where
      go : (left : List ℕ) → length taken + length left ≡ n → ((rest : List ℕ) → IsFirst E left rest
          → IsFirst E (below n) (taken ++ rest)) → IsFirst E (below n) taken
      go [] size extends = subst (λ zs. IsFirst E (below n) zs) (append-nil taken) (extends [] empty_is_first)
      go (y ∷ ys) size extends = absurd (omega arith)

  decide_leads : DecidesSteps (Leads E)
  decide_leads a b = go (cases_lt 0 (E a b))
    where
      go : (0 < E a b) ⊎ (E a b ≤ 0) → Dec ((l : Unit {0}) × Leads E l a b)
      go (inl lt) = yes (tt, omega arith)
      go (inr none) = no (λ h. omega (arith, h.1))

  -- where none is free any more, what is left has an edge from what is left
  pub ends_led : (taken degrees : List ℕ) (state : InTurn E n taken [] degrees) (y : ℕ) → In y state.left
      → HasStepTo (Leads E) state.left y
  ends_led taken degrees state y i = at (cases_lt 0 (get_or degrees y 0))
    where
      at : (0 < get_or degrees y 0) ⊎ (get_or degrees y 0 ≤ 0) → HasStepTo (Leads E) state.left y
      at (inl lt) =
          let s : (z : ℕ) × In z state.left × (1 ≤ E z y) =
          some_term (λ z. E z y) state.left (omega (arith, state.counted y (state.left_below y i))) in
          (s.0, s.1, tt, s.2)
      at (inr none) = absurd (state.zero_free y i (omega arith))

  -- and where some are left, these have a closed walk
  pub ends_closed : (taken degrees : List ℕ) → InTurn E n taken [] degrees → (length taken ≡ n → ⊥)
      → Closed (Leads E)
  ends_closed taken degrees state some = go state.left state.size (ends_led taken degrees state)
    where
      go : (left : List ℕ) → length taken + length left ≡ n
          → ((y : ℕ) → In y left → HasStepTo (Leads E) left y) → Closed (Leads E)
      go [] size all = absurd (some (omega arith))
      go (y ∷ ys) size all =
          grow (Leads E) ℕ_discrete decide_leads (y ∷ ys) all (length (y ∷ ys)) y [] (omega arith)
          (λ i. i, tt) (λ z i. elim i [ inl e ↦ inl e | inr j ↦ absurd j ]) tt
