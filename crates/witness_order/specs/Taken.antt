-- What can be taken one after the other, and what keeps the others back.
use Rattle.std.specs.Prelude.{◌≡◌, ◌≢◌, ℕ, ◌<◌, Some, List, All, AllPairs, Contains, length, slice_get}
use Rattle.specification.specs.Orders.{IsLeastOrder, HasNoOrder}
use Rattle.specification.specs.Responses.{Responses}
use Rattle.order_graph.specs.Kept.{names_at}
use Rattle.order_graph.specs.Lists.{lists_of, BeforeIn}

-- No element is taken twice; and where x is taken and y stands anywhere before x in a list, y is taken
-- earlier than x. So what is taken of a list is its beginning.
pub record IsTakenInTurn (rows : List (List ℕ)) (taken : List ℕ) : Type 0 where
  pub once : AllPairs (λ x y. x ≢ y) taken
  pub earlier : (l y x p : ℕ) → BeforeIn rows l y x → slice_get taken p ≡ Some x
      → (q : ℕ) × (q < p) × (slice_get taken q ≡ Some y)

-- Each of the elements that is not taken stands, in some list, after an element that is not taken either.
abbrev pub AreLed : List (List ℕ) → ℕ → List ℕ → Type 0
AreLed rows n taken = (x : ℕ) → x < n → ¬ Contains taken x → (y : ℕ) × (y < n) × (¬ Contains taken y)
    × (l : ℕ) × BeforeIn rows l y x

-- The elements that are taken in turn, as many as can be: the least order, where these are all, and else
-- there is none.
pub record AreTaken (v : Responses) (taken : List ℕ) : Type 0 where
  pub known : All (λ x. x < length v.elements) taken
  pub all : length taken ≡ length v.elements → IsLeastOrder v (names_at v.elements taken)
  pub some : length taken ≢ length v.elements → HasNoOrder v
  pub after : IsTakenInTurn (lists_of v) taken
  pub others : AreLed (lists_of v) (length v.elements) taken
