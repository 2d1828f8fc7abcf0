-- A recording's elements are fewer than a number of 32 bits tells.
use Rattle.std.proofs.Common.{◌≡◌, ℕ, suc, ◌*◌, ◌≤◌, ◌<◌, ◌^◌, Option, Some, None, List, [], ◌∷◌}
use Rattle.std.proofs.Common.{length, ap, arith}
use Rattle.std.specs.Prelude.{filter_map, option_and_then}
use Rattle.std.specs.List.{cons_option}
use Rattle.std.proofs.lemmas.List.{length-map}
use Rattle.events.specs.History.{History, IsLegal, inserted_name}
use Rattle.events.specs.Operations.{operation, operation_names}
use Rattle.events.specs.declared.TheConstants.{MOST_REPLICAS, MOST_ENTRIES}
use Rattle.specification.proofs.FewOperations.{few-operations}
use Rattle.contents_check.specs.declared.elements.Elements.{Elements}
use Rattle.contents_check.specs.Known.{AreElementsOf, element_names}

one-more : {Y : Type 0} (o : Option Y) (ys : List Y) (n : ℕ) → length ys ≤ n
    → length (cons_option o ys) ≤ suc n
one-more None ys n le = omega (arith, le)
one-more (Some y) ys n le = omega (arith, le)

filter_map-fewer : {X Y : Type 0} (f : X → Option Y) (xs : List X) → length (filter_map f xs) ≤ length xs
filter_map-fewer f [] = omega arith
filter_map-fewer f (x ∷ xs) = one-more (f x) (filter_map f xs) (length xs) (filter_map-fewer f xs)

pub few-elements : (h : History) (elements : Elements) → IsLegal h → AreElementsOf h elements
    → length elements.list.items < 2 ^ 32
few-elements h elements legal are =
    let names : length (element_names elements) ≡ length elements.list.items =
    length-map elements.list.items (λ x. x.name) in
    let inserted : length (element_names elements) ≤ length (operation_names h) =
    omega (
      arith,
      ap (λ l. length l) are.listed,
      filter_map-fewer (λ o. option_and_then inserted_name (operation h o)) (operation_names h),
    ) in
    let few : length (operation_names h) ≤ h.replicas * MOST_ENTRIES = few-operations h legal 0 h.replicas in
    let replicas : h.replicas ≤ MOST_REPLICAS = legal.few_replicas in
    omega arith
