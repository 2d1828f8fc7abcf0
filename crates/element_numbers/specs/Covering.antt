-- Operations whose responses cover those of others: what these show, they show, by the same operation or one
-- that comes before; the rows of numbers that are their responses; and the elements with their numbers.
use Rattle.std.specs.Prelude.{◌≡◌, ◌==◌, ◌⊎◌, ℕ, ⊤, List, [], ◌∷◌, map, Contains}
use Rattle.std.specs.Cmp.Lexicographic.{pointwise}
use Rattle.indexmap.specs.IndexMap.{get}
use Rattle.events.specs.Names.{NameBytes}
use Rattle.events.specs.Operation.{Operation, ComesBefore}
use Rattle.events.specs.History.{History}
use Rattle.events.specs.Operations.{operation_names, response}
use Rattle.specification.specs.Elements.{elements, number_in, numbers_in}
use Rattle.specification.specs.Orders.{IsSubsequence}
use Rattle.element_numbers.specs.Cuts.{rows_of, IsCut}
use Rattle.element_numbers.specs.declared.rows.Rows.{Rows}
use Rattle.element_numbers.specs.declared.covering.Covering.{Covering}
use Rattle.element_numbers.specs.declared.numbered.NumberedElements.{NumberedElements}

-- the members of the first list stand in the second in the same order, others perhaps between them
abbrev pub IsPart : {X : Type 0} → List X → List X → Type 0
IsPart [] ys = ⊤
IsPart (x ∷ xs) [] = ⊥
IsPart (x ∷ xs) (y ∷ ys) = ((x ≡ y) × IsPart xs ys) ⊎ IsPart (x ∷ xs) ys

-- some of the operations, in order, whose responses cover those of all
pub record AreCovering (h : History) (all some : List Operation) : Type 0 where
  pub part : IsPart some all
  pub covered : (o : Operation) → Contains all o
      → (p : Operation) × Contains some p × ((p ≡ o) ⊎ ComesBefore p o)
      × IsSubsequence (response h o) (response h p)

-- the rows are the responses of these operations, each name as its number among these names
pub record AreRowsOf (h : History) (names : List NameBytes) (operations : List Operation) (rows : Rows ℕ) :
    Type 0 where
  pub cut : IsCut rows
  pub rows_are : rows_of rows ≡ map (λ o. numbers_in names (response h o)) operations

-- some of these operations cover all of them, and these are the rows of their responses
pub record Covers (h : History) (names : List NameBytes) (all : List Operation) (covering : Covering) :
    Type 0 where
  pub operations : AreCovering h all covering.operations.items
  pub rows : AreRowsOf h names covering.operations.items covering.rows

-- the elements of a recording with their numbers, and operations that cover all
pub record IsNumbered (h : History) (numbered : NumberedElements) : Type 0 where
  pub names : numbered.names.items ≡ elements h
  pub numbers : (a : NameBytes) → get (pointwise ◌==◌) numbered.numbers a ≡ number_in (elements h) a
  pub covers : Covers h (elements h) (operation_names h) numbered.covering
