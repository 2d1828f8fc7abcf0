-- Counts of edges, and what an insert adds to a set's keys.
use Rattle.std.proofs.Common.{◌≡◌, ◌≢◌, ℕ, ◌+◌, ◌-◌, ◌<◌, ◌≤◌, ◌⊎◌, inl, inr, Bool, true, false, cond, eqb}
use Rattle.std.proofs.Common.{List, [], ◌∷◌, length, get_or, set, refl, sym, ◌∙◌, arith, ap, subst}
use Rattle.std.proofs.Common.{get_or-set_same, get_or-set_other}
use Rattle.std.specs.Prelude.{◌↔◌, Contains}
use Rattle.std.specs.Ordering.{nat_cmp, match_ordering}
use Rattle.std.specs.declared.cmp.Ordering.{Ordering}
use Rattle.std.specs.declared.cmp.Ordering.TheVariants.{Less, Equal, Greater}
use Rattle.std.specs.BTreeSet.{insert_key}
use Rattle.std.proofs.lemmas.Bool.{eq-eqb}
use Rattle.std.proofs.lemmas.Bool.Decides.{eqb_tells}
use Rattle.std.proofs.lemmas.Map.Lookups.{exact_unsigned}
use Rattle.std.proofs.lemmas.List.Sums.{sum_by-cons}
use Rattle.specification.proofs.Members.{In, In-from_Contains, Contains-from_In}
use Rattle.witness_order.specs.Edges.{occurrences}

-- what is counted is there, and what is there is counted
pub occurrences-In : (xs : List ℕ) (y : ℕ) → 1 ≤ occurrences xs y → In y xs
occurrences-In [] y h = absurd (omega arith)
occurrences-In (x ∷ xs) y h =
    let rest : 1 ≤ occurrences xs y → In y xs = occurrences-In xs y in
    elim (eqb_tells x y) [
      | inl e ↦ inl (sym e.1)
      | inr e ↦
          (let none : cond {A = ℕ} (eqb x y) 1 0 ≡ 0 = ap (λ (b : Bool). cond b 1 0) e.0 in
          inr (rest (omega (arith, h, sum_by-cons (λ (z : ℕ). cond (eqb z y) 1 0) x xs))))
    ]

pub In-occurrences : (xs : List ℕ) (y : ℕ) → In y xs → 1 ≤ occurrences xs y
In-occurrences [] y i = absurd i
In-occurrences (x ∷ xs) y (inl e) =
    let one : cond {A = ℕ} (eqb x y) 1 0 ≡ 1 = ap (λ (b : Bool). cond b 1 0) (eq-eqb x y (sym e)) in
    omega (arith, sum_by-cons (λ (z : ℕ). cond (eqb z y) 1 0) x xs)
In-occurrences (x ∷ xs) y (inr i) =
    let rest : 1 ≤ occurrences xs y = In-occurrences xs y i in
    omega (arith, sum_by-cons (λ (z : ℕ). cond (eqb z y) 1 0) x xs)

pub one_more : (ds es : List ℕ) (z : ℕ) → z < length ds → es ≡ set ds z (get_or ds z 0 + 1) → (y : ℕ)
    → get_or es y 0 ≡ get_or ds y 0 + cond (eqb z y) 1 0
one_more ds es z lt is y = elim (eqb_tells z y) [
  | inl h ↦
      ap (λ l. get_or l y 0) is ∙ ap (λ k. get_or (set ds z (get_or ds z 0 + 1)) k 0) (sym h.1)
      ∙ get_or-set_same ds z (get_or ds z 0 + 1) 0 lt
      ∙ ap (λ k. get_or ds k 0 + 1) h.1 ∙ ap (λ (b : Bool). get_or ds y 0 + cond b 1 0) (sym h.0)
  | inr h ↦
      (let other : y ≢ z = λ e. h.1 (sym e) in
      let same : get_or es y 0 ≡ get_or ds y 0 =
      ap (λ l. get_or l y 0) is ∙ get_or-set_other ds z y (get_or ds z 0 + 1) 0 other in
      let none : cond {A = ℕ} (eqb z y) 1 0 ≡ 0 = ap (λ (b : Bool). cond b 1 0) h.0 in
      omega arith)
]

pub one_less : (ds es : List ℕ) (z : ℕ) → z < length ds → 0 < get_or ds z 0
    → es ≡ set ds z (get_or ds z 0 - 1) → (y : ℕ) → get_or es y 0 + cond (eqb z y) 1 0 ≡ get_or ds y 0
one_less ds es z lt some is y = elim (eqb_tells z y) [
  | inl h ↦
      (let here : get_or es z 0 ≡ get_or ds z 0 - 1 = ap (λ l. get_or l z 0) is
      ∙ get_or-set_same ds z (get_or ds z 0 - 1) 0 lt in
      let one : cond {A = ℕ} (eqb z y) 1 0 ≡ 1 = ap (λ (b : Bool). cond b 1 0) h.0 in
      let there : get_or es z 0 + 1 ≡ get_or ds z 0 = omega arith in
      ap (λ n. get_or es y 0 + n) one ∙ subst (λ k. get_or es k 0 + 1 ≡ get_or ds k 0) h.1 there)
  | inr h ↦
      (let other : y ≢ z = λ e. h.1 (sym e) in
      let same : get_or es y 0 ≡ get_or ds y 0 =
      ap (λ l. get_or l y 0) is ∙ get_or-set_other ds z y (get_or ds z 0 - 1) 0 other in
      let none : cond {A = ℕ} (eqb z y) 1 0 ≡ 0 = ap (λ (b : Bool). cond b 1 0) h.0 in
      omega arith)
]

pub In-insert : (ks : List ℕ) (y z : ℕ) → In z (insert_key nat_cmp ks y) → (z ≡ y) ⊎ In z ks
In-insert [] y z i = i
In-insert (x ∷ xs) y z i = go (nat_cmp y x) i (In-insert xs y z)
  where
    go : (o : Ordering) → In z (match_ordering o (y ∷ x ∷ xs) (x ∷ xs) (x ∷ insert_key nat_cmp xs y))
        → (In z (insert_key nat_cmp xs y) → (z ≡ y) ⊎ In z xs) → (z ≡ y) ⊎ In z (x ∷ xs)
    go Less j rest = j
    go Equal j rest = inr j
    go Greater (inl e) rest = inr (inl e)
    go Greater (inr j) rest = elim (rest j) [ inl e ↦ inl e | inr k ↦ inr (inr k) ]

pub insert-In : (ks : List ℕ) (y z : ℕ) → (z ≡ y) ⊎ In z ks → In z (insert_key nat_cmp ks y)
insert-In [] y z i = i
insert-In (x ∷ xs) y z i = go (nat_cmp y x) refl (insert-In xs y z) i
  where
    go : (o : Ordering) → nat_cmp y x ≡ o → ((z ≡ y) ⊎ In z xs → In z (insert_key nat_cmp xs y))
        → (z ≡ y) ⊎ In z (x ∷ xs) →
        In z (match_ordering o (y ∷ x ∷ xs) (x ∷ xs) (x ∷ insert_key nat_cmp xs y))
    go Less e rest j = j
    go Equal e rest (inl f) = inl (f ∙ exact_unsigned y x e)
    go Equal e rest (inr j) = j
    go Greater e rest (inl f) = inr (rest (inl f))
    go Greater e rest (inr (inl f)) = inl f
    go Greater e rest (inr (inr j)) = inr (rest (inr j))

-- what an insert adds to those free so far
pub freed_more : (n z : ℕ) (old cur new free now next : List ℕ) → z < n → 0 < get_or cur z 0
    → ((y : ℕ) → y < n → get_or cur y 0 ≤ get_or old y 0) →
    ((y : ℕ) → get_or new y 0 + cond (eqb z y) 1 0 ≡ get_or cur y 0)
    → next ≡ cond (eqb (get_or cur z 0) 1) (insert_key nat_cmp now z) now →
    ((y : ℕ) → Contains now y ↔ (Contains free y ⊎ ((y < n) × (0 < get_or old y 0) × (get_or cur y 0 ≡ 0)))) →
    (y : ℕ) → Contains next y ↔ (Contains free y ⊎ ((y < n) × (0 < get_or old y 0) × (get_or new y 0 ≡ 0)))
freed_more n z old cur new free now next known some less step is were y =
    elim (eqb_tells (get_or cur z 0) 1) [
      | inl h ↦ (
        λ i. elim (In-insert now z y (subst (λ l. In y l) (last h.0) (In-from_Contains next y i))) [
          | inl e ↦
              inr (subst (λ w. (w < n) × (0 < get_or old w 0) × (get_or new w 0 ≡ 0)) (sym e) (
                known,
                omega (arith, less z known),
                omega (arith, own, h.1),
              ))
          | inr j ↦ stays j
        ],
        λ s. Contains-from_In next y
            (subst (λ l. In y l) (sym (last h.0)) (insert-In now z y (elim (eqb_tells z y) [
              | inl e ↦ inl (sym e.1)
              | inr e ↦ inr (In-from_Contains now y ((were y).1 (back s e.0)))
            ]))),
      )
      | inr h ↦ (
        λ i. stays (subst (λ l. In y l) (kept h.0) (In-from_Contains next y i)),
        λ s. Contains-from_In next y
            (subst (λ l. In y l) (sym (kept h.0)) (In-from_Contains now y ((were y).1 (elim (eqb_tells z y) [
              | inl e ↦
                  elim s [
                    | inl f ↦ inl f
                    | inr g ↦
                        absurd (more h.1 (subst (λ w. get_or new w 0 ≡ 0) (sym e.1) g.2))
                  ]
              | inr e ↦ back s e.0
            ])))),
      )
    ]
  where
    last : eqb (get_or cur z 0) 1 ≡ true → next ≡ insert_key nat_cmp now z
    last e = is ∙ ap (λ (b : Bool). cond b (insert_key nat_cmp now z) now) e

    kept : eqb (get_or cur z 0) 1 ≡ false → next ≡ now
    kept e = is ∙ ap (λ (b : Bool). cond b (insert_key nat_cmp now z) now) e

    own : get_or new z 0 + 1 ≡ get_or cur z 0
    own = ap (λ (b : Bool). get_or new z 0 + cond b 1 0) (sym (eq-eqb z z refl)) ∙ step z

    more : get_or cur z 0 ≢ 1 → get_or new z 0 ≡ 0 → ⊥
    more other none = other (sym own ∙ ap (λ k. k + 1) none)

    stays : In y now → Contains free y ⊎ ((y < n) × (0 < get_or old y 0) × (get_or new y 0 ≡ 0))
    stays j =
        elim ((were y).0 (Contains-from_In now y j)) [
          | inl f ↦ inl f
          | inr g ↦
              inr (g.0, g.1, omega (arith, step y, g.2))
        ]

    back : Contains free y ⊎ ((y < n) × (0 < get_or old y 0) × (get_or new y 0 ≡ 0)) → eqb z y ≡ false
        → Contains free y ⊎ ((y < n) × (0 < get_or old y 0) × (get_or cur y 0 ≡ 0))
    back (inl f) e = inl f
    back (inr g) e =
        let none : cond {A = ℕ} (eqb z y) 1 0 ≡ 0 = ap (λ (b : Bool). cond b 1 0) e in
        inr (g.0, g.1, omega (arith, step y, g.2))

-- and what is free below one number more
pub one_more_free : (ds old new : List ℕ) (n : ℕ)
    → ((z : ℕ) → Contains old z ↔ ((z < n) × (get_or ds z 0 ≡ 0))) → get_or ds n 0 ≡ 0
    → new ≡ insert_key nat_cmp old n →
    (z : ℕ) → Contains new z ↔ ((z < n + 1) × (get_or ds z 0 ≡ 0))
one_more_free ds old new n were zero is z = (
  λ i. elim (In-insert old n z (subst (λ l. In z l) is (In-from_Contains new z i))) [
    | inl e ↦ (omega arith, ap (λ k. get_or ds k 0) e ∙ zero)
    | inr j ↦
        (let h : (z < n) × (get_or ds z 0 ≡ 0) = (were z).0 (Contains-from_In old z j) in
        (omega (arith, h.0), h.1))
  ],
  λ h. Contains-from_In new z (subst (λ l. In z l) (sym is) (insert-In old n z (elim (eqb_tells z n) [
    | inl e ↦ inl e.1
    | inr e ↦ inr (In-from_Contains old z ((were z).1 (omega (arith, h.0, e.1), h.1)))
  ]))),
)

pub none_more_free : (ds old : List ℕ) (n : ℕ) → ((z : ℕ) → Contains old z ↔ ((z < n) × (get_or ds z 0 ≡ 0)))
    → (get_or ds n 0 ≡ 0 → ⊥) →
    (z : ℕ) → Contains old z ↔ ((z < n + 1) × (get_or ds z 0 ≡ 0))
none_more_free ds old n were some z = (
  λ i. let h : (z < n) × (get_or ds z 0 ≡ 0) = (were z).0 i in (omega (arith, h.0), h.1),
  λ h. elim (eqb_tells z n) [
    | inl e ↦ absurd (some (ap (λ k. get_or ds k 0) (sym e.1) ∙ h.1))
    | inr e ↦ (were z).1 (omega (arith, h.0, e.1), h.1)
  ],
)
