-- The number of a name in the map is its place among the elements' names.
use Rattle.std.proofs.Common.{◌≡◌, ℕ, Option, Some, None, refl, sym, ◌∙◌, ap}
use Rattle.events.specs.Names.{NameBytes}
use Rattle.specification.specs.Elements.{number_in}
use Rattle.element_numbers.proofs.NameNumbers.{name-at}
use Rattle.contents_check.specs.declared.elements.Elements.{Elements}
use Rattle.contents_check.specs.Known.{number_of, element_names, AreNumbered}
use Rattle.contents_check.proofs.RowNumbers.{name_at, number-among}

pub numbers-are : (elements : Elements) → AreNumbered elements → (a : NameBytes)
    → number_of elements a ≡ number_in (element_names elements) a
numbers-are elements numbers a = go (number_of elements a) (number_in (element_names elements) a) refl refl
  where
    go : (n m : Option ℕ) → number_of elements a ≡ n → number_in (element_names elements) a ≡ m
        → number_of elements a ≡ number_in (element_names elements) a
    go (Some i) m is other = is ∙ sym (number-among elements numbers a i is)
    go None None is other = is ∙ sym other
    go None (Some i) is other =
        let x = name_at elements i a (name-at (element_names elements) i a other) in
        let bad : None ≡ Some i = sym is ∙ ap (number_of elements) (sym x.2) ∙ numbers.numbered i x.0 x.1 in
        absurd cc
