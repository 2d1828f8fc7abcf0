-- Cycles as lists of elements, and the first of them in dictionary order.
use Rattle.std.specs.Prelude.{◌≡◌, ℕ, zero, suc, ◌<◌, ◌≤◌, ◌⊎◌, List, [], ◌∷◌, length, slice_index}
use Rattle.list_search.specs.Graph.{Before}

-- a stands before the first of these, each before the next, and the last before z
abbrev pub Leads : List (List ℕ) → ℕ → List ℕ → ℕ → Type 0
Leads rows a [] z = Before rows a z
Leads rows a (b ∷ rest) z = Before rows a b × Leads rows b rest z

-- each element before the next, and the last before the first
abbrev pub IsRing : List (List ℕ) → List ℕ → Type 0
IsRing rows [] = ⊥
IsRing rows (a ∷ rest) = Leads rows a rest a

-- in dictionary order the first of two lists comes first, or they are equal
abbrev pub IsNotAfter : List ℕ → List ℕ → Type 0
IsNotAfter [] ys = Unit {0}
IsNotAfter (x ∷ xs) [] = ⊥
IsNotAfter (x ∷ xs) (y ∷ ys) = (x < y) ⊎ ((x ≡ y) × IsNotAfter xs ys)

-- the first of the cycles of length k
pub record IsFirstRing (rows : List (List ℕ)) (k : ℕ) (ring : List ℕ) : Type 0 where
  pub is_ring : IsRing rows ring
  pub count : length ring ≡ k
  pub first : (other : List ℕ) → IsRing rows other → length other ≡ k → IsNotAfter ring other

-- a walk of n steps from x to z, told from its first step
abbrev pub Reaches : List (List ℕ) → ℕ → ℕ → ℕ → Type 0
Reaches rows z zero x = x ≡ z
Reaches rows z (suc n) x = (y : ℕ) × Before rows x y × Reaches rows z n y

-- b is the least element after a from which n steps lead to z
pub record IsLeastNext (rows : List (List ℕ)) (z n a b : ℕ) : Type 0 where
  pub behind : Before rows a b
  pub reaches : Reaches rows z n b
  pub least : (y : ℕ) → Before rows a y → Reaches rows z n y → b ≤ y

-- d is the least number of steps from x to z, or the limit, where it takes as many steps or more, or no walk
-- leads there
pub record IsDistanceTo (rows : List (List ℕ)) (z limit x d : ℕ) : Type 0 where
  pub within : d ≤ limit
  pub walk : d < limit → Reaches rows z d x
  pub least : (n : ℕ) → Reaches rows z n x → d ≤ n

-- of each element
abbrev pub AreDistancesTo : List (List ℕ) → ℕ → ℕ → List ℕ → Type 0
AreDistancesTo rows z limit depths = (x : ℕ) → x < length depths
    → IsDistanceTo rows z limit x (slice_index depths x)
