-- The spots of an element stand in order of lists.
use Rattle.std.proofs.Common.{◌≡◌, ℕ, zero, suc, ◌+◌, ◌<◌, ◌≤◌, Some, List, [], ◌∷◌, ◌++◌, slice_get, arith}
use Rattle.std.proofs.Common.{inl, inr}
use Rattle.std.proofs.lemmas.Option.{none-some}
use Rattle.order_graph.specs.Spots.{spots_in, spots_from}
use Rattle.order_graph.specs.declared.spot.Spot.{Spot}
use Rattle.order_graph.proofs.AllSpots.{from_sound, get_either, in_sound}

-- where two places of two joined lists are
pub data IsOrdered (xs ys : List Spot) (p q : Spot) : Type 0 where
  both_left : (i j : ℕ) → slice_get xs i ≡ Some p → slice_get xs j ≡ Some q → IsOrdered xs ys p q
  across : (i j : ℕ) → slice_get xs i ≡ Some p → slice_get ys j ≡ Some q → IsOrdered xs ys p q
  both_right : (i j : ℕ) → i < j → slice_get ys i ≡ Some p → slice_get ys j ≡ Some q → IsOrdered xs ys p q

ordered_zero : (x : Spot) (xs ys : List Spot) (j : ℕ) (p q : Spot) → Some x ≡ Some p
    → slice_get (xs ++ ys) j ≡ Some q → IsOrdered (x ∷ xs) ys p q
ordered_zero x xs ys j p q first second = elim (get_either xs ys j q second) [
  | inl h ↦ both_left zero (suc j) first h
  | inr h ↦ across zero h.0 first h.1
]

ordered_more : (x : Spot) (xs ys : List Spot) (p q : Spot) → IsOrdered xs ys p q → IsOrdered (x ∷ xs) ys p q
ordered_more x xs ys p q (both_left i j one two) = both_left (suc i) (suc j) one two
ordered_more x xs ys p q (across i j one two) = across (suc i) j one two
ordered_more x xs ys p q (both_right i j lt one two) = both_right i j lt one two

pub ordered_in : (xs ys : List Spot) (i j : ℕ) (p q : Spot) → i < j → slice_get (xs ++ ys) i ≡ Some p
    → slice_get (xs ++ ys) j ≡ Some q → IsOrdered xs ys p q
ordered_in [] ys i j p q lt first second = both_right i j lt first second
ordered_in (x ∷ xs) ys i zero p q lt first second = absurd (omega arith)
ordered_in (x ∷ xs) ys zero (suc j) p q lt first second = ordered_zero x xs ys j p q first second
ordered_in (x ∷ xs) ys (suc i) (suc j) p q lt first second =
    ordered_more x xs ys p q (ordered_in xs ys i j p q (omega arith) first second)

pub lists_in_order : (n : ℕ) (rows : List (List ℕ)) (x i j : ℕ) (p q : Spot) → i < j
    → slice_get (spots_from n rows x) i ≡ Some p → slice_get (spots_from n rows x) j ≡ Some q
    → p.list ≤ q.list
lists_in_order n [] x i j p q lt first second = absurd (none-some p first)
lists_in_order n (r ∷ rs) x i j p q lt first second =
    elim (ordered_in (spots_in n 0 r x) (spots_from (n + 1) rs x) i j p q lt first second) [
      | both_left k l one two ↦
          let a = in_sound n 0 r x k p one in let b = in_sound n 0 r x l q two in
          let left = a.list_is in let right = b.list_is in omega arith
      | across k l one two ↦
          let a = in_sound n 0 r x k p one in let b = from_sound (n + 1) rs x l q two in
          let left = a.list_is in let right = b.list_is in omega arith
      | both_right k l less one two ↦ lists_in_order (n + 1) rs x k l p q less one two
    ]
