-- The elements with their numbers, and responses that cover all as lists of them.
use Rattle.std.specs.Prelude.{◌≡◌, ℕ, ◌<◌, ◌==◌, ◌^◌, Option, List, [], All, IfSome, length, map, slice_index_or}
use Rattle.std.specs.Cmp.Lexicographic.{pointwise}
use Rattle.indexmap.specs.IndexMap.{get}
use Rattle.events.specs.Names.{NameBytes}
use Rattle.events.specs.History.{History, IsLegal}
use Rattle.events.specs.Operations.{operation_names, response}
use Rattle.specification.specs.Faults.{IsSound}
use Rattle.specification.specs.Elements.{elements, number_in, numbers_in}
use Rattle.specification.specs.Members.{Once}
use Rattle.specification.specs.Versions.{Version, one, two}
use Rattle.bit_tables.specs.Lists.{IsTableOf}
use Rattle.list_rule.specs.Judging.{IsRuleOf}
use Rattle.element_numbers.specs.Cuts.{rows_of, IsCut}
use Rattle.element_numbers.specs.Covering.{AreCovering}
use Rattle.cert_check.specs.Values.{IsGradualFrom, IsDeepFrom}
use Rattle.cert_check.specs.declared.numbered.Numbered.{Numbered}
use Rattle.cert_check.specs.declared.ways.Ways.{Ways}

-- the number of a name
abbrev pub number_of : Numbered → NameBytes → Option ℕ
number_of t a = get (pointwise ◌==◌) t.numbers a

-- the lists of places
abbrev pub lists_of : Numbered → List (List ℕ)
lists_of t = rows_of t.places

-- the places of the operation with this number
abbrev pub places_at : Numbered → ℕ → List ℕ
places_at t i = slice_index_or (lists_of t) i []

-- along these places, from the first on that counts, the values are gradual, and deep before the source
abbrev pub AreDeepAt : Numbered → List ℕ → ℕ → ℕ → ℕ → ℕ → Type 0
AreDeepAt t depths first source bound j =
    IsGradualFrom first depths (places_at t j) × IsDeepFrom first depths source bound (places_at t j)

-- the first number of which a row speaks: in version two its source's
abbrev pub first_of : Version → ℕ → ℕ
first_of one source = 0
first_of two source = source

-- the names differ, and their numbers are their places
pub record IsNumbering (t : Numbered) : Type 0 where
  pub once : Once t.names.items
  pub few : length t.names.items < 2 ^ 32
  pub numbers : (a : NameBytes) → number_of t a ≡ number_in t.names.items a

-- each place has a number below the bound
abbrev pub AreWithin : ℕ → Numbered → Type 0
AreWithin bound t = All (λ list. All (λ x. x < bound) list) (lists_of t)

-- a table of which elements stand after which in the lists
abbrev pub IsTableFor : Numbered → List (List ℕ) → Type 0
IsTableFor t rows = IsTableOf (length t.names.items) (lists_of t) rows

-- the lists and the table by which rows are judged, as far as there are any
pub record AreWays (t : Numbered) (ways : Ways) : Type 0 where
  pub lists : IfSome ways.lists (IsRuleOf (length t.names.items) (lists_of t))
  pub table : IfSome ways.table (IsTableFor t)

-- the elements of a sound recording, and the places of operations that cover all
pub record IsOf (h : History) (t : Numbered) : Type 0 where
  pub legal : IsLegal h
  pub sound : IsSound h
  pub numbering : IsNumbering t
  pub names : t.names.items ≡ elements h
  pub operations : AreCovering h (operation_names h) t.operations.items
  pub cut : IsCut t.places
  pub places : lists_of t ≡ map (λ o. numbers_in (elements h) (response h o)) t.operations.items
  pub within : AreWithin (length t.names.items) t
