-- The names that all operations of a sound recording insert are its elements: they differ, and are few.
use Rattle.std.proofs.Common.{◌≡◌, ◌≢◌, ◌<◌, ◌^◌, List, length, sym, ◌∙◌, ap, subst, arith}
use Rattle.std.specs.Prelude.{AllPairs, filter_map, option_and_then}
use Rattle.events.specs.Names.{NameBytes}
use Rattle.events.specs.Operation.{Operation}
use Rattle.events.specs.History.{History, IsLegal, inserted_name}
use Rattle.events.specs.Operations.{operation, operation_names}
use Rattle.specification.specs.Faults.{IsSound}
use Rattle.specification.specs.Elements.{elements}
use Rattle.specification.specs.Responses.{responses_of, AreProper}
use Rattle.specification.proofs.SoundResponses.{sound_responses_are_proper}

pub distinct-names : (h : History) → IsLegal h → IsSound h → (names : List NameBytes) → names ≡ elements h
    → AllPairs (λ a b. a ≢ b) names
distinct-names h legal sound names is =
    let proper : AreProper (responses_of h) = sound_responses_are_proper h legal sound in
    subst (λ (l : List NameBytes). AllPairs (λ a b. a ≢ b) l) (sym is) proper.distinct

pub few-names : (h : History) → IsLegal h → IsSound h → (names : List NameBytes) → names ≡ elements h
    → length names < 2 ^ 32
few-names h legal sound names is =
    let proper : AreProper (responses_of h) = sound_responses_are_proper h legal sound in
    omega (arith, proper.few, ap (λ (l : List NameBytes). length l) is)

-- the inserted names are the elements
pub names-are : (h : History) (operations : List Operation) (names : List NameBytes)
    → operations ≡ operation_names h
    → names ≡ filter_map (λ o. option_and_then inserted_name (operation h o)) operations → names ≡ elements h
names-are h operations names all is =
    is ∙ ap (filter_map (λ o. option_and_then inserted_name (operation h o))) all
