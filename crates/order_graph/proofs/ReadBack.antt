-- The names of the numbers of names are the names.
use Rattle.std.proofs.Common.{◌≡◌, inl, inr, List, [], ◌∷◌, length, get_or, refl, ◌∙◌, ap}
use Rattle.std.specs.Prelude.{unwrap_or}
use Rattle.std.proofs.lemmas.Option.{get_or_from_slice_get}
use Rattle.events.specs.Names.{NameBytes}
use Rattle.specification.specs.Elements.{number_in, numbers_in}
use Rattle.specification.proofs.Members.{In, Once}
use Rattle.order_graph.specs.Kept.{names_at}
use Rattle.element_numbers.proofs.NameNumbers.{number-some}

pub read-back : (xs w : List NameBytes) → Once xs → ((a : NameBytes) → In a w → In a xs)
    → names_at xs (numbers_in xs w) ≡ w
read-back xs [] once known = refl
read-back xs (a ∷ w) once known =
    let s = number-some xs a once (known a (inl refl)) in
    let here : get_or xs (unwrap_or (number_in xs a) (length xs)) [] ≡ a =
    ap (λ n. get_or xs (unwrap_or n (length xs)) []) s.2 ∙ get_or_from_slice_get xs s.0 a [] s.1 in
    ap (λ b. b ∷ names_at xs (numbers_in xs w)) here
    ∙ ap (λ l. a ∷ l) (read-back xs w once (λ b i. known b (inr i)))
