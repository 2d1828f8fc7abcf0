-- A guess at the strongly connected components, and what shows that it is right.
use Rattle.std.specs.Prelude.{◌≡◌, ℕ, ◌<◌, ◌≤◌, ◌⊎◌, true, false, List, slice_index, slice_index_or, vec_len}
use Rattle.list_search.specs.Graph.{Before}
use Rattle.level_search.specs.declared.components.guess.Guess.{Guess}
use Rattle.level_search.specs.declared.components.tested.Links.{Links}

-- the number of the component of x, and the root of that
abbrev pub rank : Guess → ℕ → ℕ
rank g x = slice_index g.ranks.items x

abbrev pub root : Guess → ℕ → ℕ
root g x = slice_index g.roots.items (rank g x)

-- the component of x is said to have others
abbrev pub IsShared : Guess → ℕ → Type 0
IsShared g x = slice_index_or g.shared.items x false ≡ true

-- what is said to stand right after x, and right before it
abbrev pub after : Guess → ℕ → ℕ
after g x = slice_index g.after.items x

abbrev pub before : Guess → ℕ → ℕ
before g x = slice_index g.before.items x

-- there is a value for each of n elements
pub record HasValues (n : ℕ) (g : Guess) : Type 0 where
  pub ranks : vec_len g.ranks ≡ n
  pub shared : vec_len g.shared ≡ n
  pub after : vec_len g.after ≡ n
  pub backs : vec_len g.backs ≡ n
  pub before : vec_len g.before ≡ n
  pub forths : vec_len g.forths ≡ n

-- there are marks for each of n elements
pub record FitsLinks (n : ℕ) (links : Links) : Type 0 where
  pub after : vec_len links.after ≡ n
  pub before : vec_len links.before ≡ n

-- what is marked stands as it is said to
pub record AreLinks (rows : List (List ℕ)) (g : Guess) (links : Links) : Type 0 where
  pub after : (x : ℕ) → slice_index_or links.after.items x false ≡ true → Before rows x (after g x)
  pub before : (x : ℕ) → slice_index_or links.before.items x false ≡ true → Before rows (before g x) x

-- an element is the root, or both are in a component with others
abbrev pub IsOwned : Guess → ℕ → Type 0
IsOwned g x = (root g x ≡ x) ⊎ (IsShared g (root g x) × IsShared g x)

-- one of its component leads to x, and is nearer to the root; and so is the one to which x leads
pub record IsNearer (rows : List (List ℕ)) (g : Guess) (x : ℕ) : Type 0 where
  pub falls : slice_index g.backs.items (after g x) < slice_index g.backs.items x
  pub step : Before rows (before g x) x
  pub same : rank g (before g x) ≡ rank g x
  pub shared : IsShared g (before g x)
  pub rises : slice_index g.forths.items (before g x) < slice_index g.forths.items x

-- x leads to one of its component, and is the root or further from it than others
pub record IsLinked (rows : List (List ℕ)) (g : Guess) (x : ℕ) : Type 0 where
  pub step : Before rows x (after g x)
  pub same : rank g (after g x) ≡ rank g x
  pub shared : IsShared g (after g x)
  pub nearer : (root g x ≡ x) ⊎ IsNearer rows g x

pub record IsTested (rows : List (List ℕ)) (g : Guess) (x : ℕ) : Type 0 where
  pub owned : IsOwned g x
  pub linked : IsShared g x → IsLinked rows g x

-- of n elements: none stands before one of a lesser component, and all are tested
pub record IsRight (n : ℕ) (rows : List (List ℕ)) (g : Guess) : Type 0 where
  pub values : HasValues n g
  pub climbs : (x y : ℕ) → Before rows x y → rank g x ≤ rank g y
  pub tested : (x : ℕ) → x < n → IsTested rows g x
