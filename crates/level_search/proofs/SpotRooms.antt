-- The spots of an element are in different lists, which have no more places together than all.
use Rattle.std.proofs.Common.{◌≡◌, ℕ, zero, suc, ◌+◌, ◌<◌, ◌≤◌, cond, eqb, List, [], ◌∷◌}
use Rattle.std.proofs.Common.{length, get_or, refl, sym, ap, ◌∙◌, subst, arith, add-one, inl, inr}
use Rattle.std.specs.Prelude.{sum_by}
use Rattle.std.proofs.lemmas.Bool.{cases_Bool, eqb-true}
use Rattle.std.proofs.lemmas.List.Sums.{sum_by-append, sum_by-cons}
use Rattle.specification.specs.Responses.{Responses, AreProper, place_count}
use Rattle.order_graph.specs.Lists.{lists_of, row, Stands}
use Rattle.order_graph.specs.Spots.{spots_in, spots_from, spots_of}
use Rattle.order_graph.specs.declared.spot.Spot.{Spot}
use Rattle.order_graph.proofs.Shown.{lists-total}
use Rattle.level_search.proofs.OnCycles.{apart-in}

spots-none : (list p : ℕ) (r : List ℕ) (x : ℕ) → ((q : ℕ) → q < length r → get_or r q 0 ≡ x → ⊥)
    → spots_in list p r x ≡ []
spots-none list p [] x none = refl
spots-none list p (y ∷ ys) x none =
    let first : Spot = record { list = list; place = p } in
    let rest : List Spot = spots_in list (p + 1) ys x in
    elim (cases_Bool (eqb y x)) as (λ _. spots_in list p (y ∷ ys) x ≡ []) [
      | inl here ↦ absurd (none 0 (omega arith) (eqb-true y x here))
      | inr other ↦
          ap (λ b. cond {A = List Spot} b (first ∷ rest) rest) other
          ∙ spots-none list (p + 1) ys x (λ q low here. none (suc q) (omega arith) here)
    ]

module _ (w : ℕ → ℕ) where
  abbrev weight : Spot → ℕ
  weight q = w q.list

  -- a list with x at one place at most weighs once
  in-room : (list p : ℕ) (r : List ℕ) (x : ℕ)
      → ((a b : ℕ) → a < b → b < length r → get_or r a 0 ≡ x → get_or r b 0 ≡ x → ⊥)
      → sum_by weight (spots_in list p r x) ≤ w list
  in-room list p [] x once = omega arith
  in-room list p (y ∷ ys) x once =
      let first : Spot = record { list = list; place = p } in
      let rest : List Spot = spots_in list (p + 1) ys x in
      elim (cases_Bool (eqb y x)) as (λ _. sum_by weight (spots_in list p (y ∷ ys) x) ≤ w list) [
        | inl here ↦
            subst (λ b. sum_by weight (cond {A = List Spot} b (first ∷ rest) rest) ≤ w list) (sym here)
            (let none : sum_by weight rest ≡ 0 =
            ap (λ (l : List Spot). sum_by weight l) (spots-none list (p + 1) ys x
            (λ q low there. once 0 (suc q) (omega arith) (omega arith) (eqb-true y x here) there)) in
            omega (arith, none, sum_by-cons weight first rest))
        | inr other ↦
            subst (λ b. sum_by weight (cond {A = List Spot} b (first ∷ rest) rest) ≤ w list) (sym other)
            (in-room list (p + 1) ys x
            (λ a b lt low one two. once (suc a) (suc b) (omega arith) (omega arith) one two))
      ]

  abbrev total : ℕ → ℕ → ℕ
  total n zero = 0
  total n (suc m) = w n + total (suc n) m

  from-room : (n : ℕ) (rows : List (List ℕ)) (x : ℕ)
      → ((l p q : ℕ) → p < q → Stands rows l p x → Stands rows l q x → ⊥)
      → sum_by weight (spots_from n rows x) ≤ total n (length rows)
  from-room n [] x once = omega arith
  from-room n (r ∷ rs) x once =
      let here =
      in-room n 0 r x (λ a b lt low one two. once 0 a b lt
      (record { within = omega arith; here = one }) (record { within = low; here = two })) in
      let rest : sum_by weight (spots_from (n + 1) rs x) ≤ total (suc n) (length rs) =
      subst (λ m. sum_by weight (spots_from (n + 1) rs x) ≤ total m (length rs)) (add-one n)
      (from-room (n + 1) rs x (λ l p q lt one two. once (suc l) p q lt
      (record { within = one.within; here = one.here })
      (record { within = two.within; here = two.here }))) in
      omega (arith, here, rest, sum_by-append weight (spots_in n 0 r x) (spots_from (n + 1) rs x))

total-next : (w : ℕ → ℕ) (n m : ℕ) → total w (suc n) m ≡ total (λ l. w (suc l)) n m
total-next w n zero = refl
total-next w n (suc m) = ap (λ t. w (suc n) + t) (total-next w (suc n) m)

total-rows : (rows : List (List ℕ)) → total (λ l. length (row rows l)) 0 (length rows)
    ≡ sum_by (λ r. length r) rows
total-rows [] = refl
total-rows (r ∷ rs) =
    omega (
      arith,
      total-next (λ l. length (row (r ∷ rs) l)) 0 (length rs),
      total-rows rs,
      sum_by-cons (λ (l : List ℕ). length l) r rs,
    )

pub spots-room : (v : Responses) → AreProper v → (a : ℕ)
    → sum_by (λ (q : Spot). length (row (lists_of v) q.list)) (spots_of (lists_of v) a) ≤ place_count v
spots-room v proper a =
    let rows : List (List ℕ) = lists_of v in
    omega (
      arith,
      from-room (λ l. length (row rows l)) 0 rows a (λ l p q lt one two. apart-in v proper a (record {
        list = l;
        place = p;
        later = q;
        in_order = lt;
        first = one;
        second = two;
      })),
      total-rows rows,
      lists-total v,
    )
