-- What is kept of a part of a sound recording's operations reads as their responses, so all that holds of
-- these holds of it.
use Rattle.std.proofs.Common.{◌≡◌, ◌≢◌, ℕ, List, [], ◌∷◌, length, map, refl, sym, ◌∙◌, ap, subst, arith}
use Rattle.std.specs.Prelude.{All, AllPairs, Contains}
use Rattle.std.proofs.lemmas.List.{length-map}
use Rattle.events.specs.Names.{NameBytes}
use Rattle.events.specs.Operation.{Operation, ComesBefore}
use Rattle.events.specs.History.{History, IsLegal}
use Rattle.events.specs.Operations.{operation_names, response}
use Rattle.specification.specs.Faults.{IsSound}
use Rattle.specification.specs.Elements.{elements, numbers_in}
use Rattle.specification.specs.Responses.{Returned, responses_of, AreProper}
use Rattle.specification.proofs.Members.{All-from_members, All-member}
use Rattle.specification.proofs.OperationNames.{listed-operation, operation_names-rise, Rising-map}
use Rattle.specification.proofs.OperationNames.{AllPairs-from_Rising}
use Rattle.specification.proofs.SoundResponses.{sound_responses_are_proper, response-elements}
use Rattle.specification.proofs.Shown.{elements-once}
use Rattle.element_numbers.specs.Covering.{IsPart}
use Rattle.order_graph.specs.Covers.{responses_on}
use Rattle.order_graph.specs.Lists.{lists_of, AreFew}
use Rattle.order_graph.specs.Kept.{responses_kept}
use Rattle.element_numbers.proofs.Parts.{In-part, Rising-part, sum-part, length-part, part-map}
use Rattle.order_graph.proofs.Totals.{few-responses, returned-back}

map-twice : {X Y Z : Type 0} (g : Y → Z) (f : X → Y) (xs : List X) → map g (map f xs) ≡ map (λ x. g (f x)) xs
map-twice g f [] = refl
map-twice g f (x ∷ xs) = ap (λ l. g (f x) ∷ l) (map-twice g f xs)

-- the responses as numbers, operation by operation
abbrev pub answers : History → List NameBytes → List Operation → List (List ℕ)
answers h names = map (λ o. numbers_in names (response h o))

module _ (h : History) (legal : IsLegal h) (sound : IsSound h) (shown : List Operation)
    (part : IsPart shown (operation_names h)) where
  abbrev returned_by : Operation → Returned
  returned_by o = record { by = o; names = response h o }

  part-returned : IsPart (responses_on h shown).returned (responses_of h).returned
  part-returned = part-map returned_by shown (operation_names h) part

  all-proper : AreProper (responses_of h)
  all-proper = sound_responses_are_proper h legal sound

  all-of_part : (P : Returned → Type 0) → All P (responses_of h).returned
      → All P (responses_on h shown).returned
  all-of_part P all =
      All-from_members P (responses_on h shown).returned
      (λ r i. All-member P (responses_of h).returned r all
      (In-part r (responses_on h shown).returned (responses_of h).returned part-returned i))

  pub proper-part : AreProper (responses_on h shown)
  proper-part = record {
    distinct = all-proper.distinct;
    few = all-proper.few;
    in_order =
        AllPairs-from_Rising (λ (r s : Returned). ComesBefore r.by s.by) (responses_on h shown).returned
        (Rising-map ComesBefore (λ (r s : Returned). ComesBefore r.by s.by) returned_by (λ a b lt. lt) shown
        (Rising-part ComesBefore shown (operation_names h) part (operation_names-rise h)));
    of_elements =
        all-of_part (λ (r : Returned). All (λ a. Contains (elements h) a) r.names) all-proper.of_elements;
    repeat_free = all-of_part (λ (r : Returned). AllPairs (λ a b. a ≢ b) r.names) all-proper.repeat_free;
  }

  few-part : AreFew (responses_on h shown)
  few-part =
      let all : AreFew (responses_of h) = few-responses h legal in
      record {
        lists = omega (
          arith,
          all.lists,
          length-part (responses_on h shown).returned (responses_of h).returned part-returned,
        );
        places =
            omega (
              arith,
              all.places,
              sum-part (λ (r : Returned). length r.names)
                  (responses_on h shown).returned (responses_of h).returned part-returned,
            );
      }

module _ (h : History) (legal : IsLegal h) (sound : IsSound h) (names : List NameBytes)
    (shown : List Operation) (rows : List (List ℕ))
    (names_is : names ≡ elements h) (part : IsPart shown (operation_names h))
    (rows_is : rows ≡ answers h names shown) where
  rows-whole : rows ≡ answers h (elements h) shown
  rows-whole = rows_is ∙ ap (λ n. answers h n shown) names_is

  whole-is : responses_kept (elements h) shown (answers h (elements h) shown) ≡ responses_on h shown
  whole-is =
      let back =
      returned-back (elements h) (response h) shown
      (elements-once (responses_of h) (sound_responses_are_proper h legal sound))
      (λ o i a j. response-elements h o legal
      (sound.right o (listed-operation h o (In-part o shown (operation_names h) part i))).contents a j) in
      λ i. record { elements = elements h; returned = back i }

  pub kept-is : responses_kept names shown rows ≡ responses_on h shown
  kept-is = ap (λ n. responses_kept n shown rows) names_is ∙ ap (responses_kept (elements h) shown) rows-whole
      ∙ whole-is

  pub kept-lists : lists_of (responses_kept names shown rows) ≡ rows
  kept-lists =
      ap lists_of kept-is
      ∙ map-twice (λ (r : Returned). numbers_in (elements h) r.names)
      (λ o. record { by = o; names = response h o }) shown
      ∙ sym rows-whole

  pub kept-proper : AreProper (responses_kept names shown rows)
  kept-proper = subst AreProper (sym kept-is) (proper-part h legal sound shown part)

  pub kept-few : AreFew (responses_kept names shown rows)
  kept-few = subst AreFew (sym kept-is) (few-part h legal sound shown part)

  pub kept-count : length shown ≡ length rows
  kept-count =
      omega (
        arith,
        ap (λ (l : List (List ℕ)). length l) rows_is,
        length-map {B = List ℕ} shown (λ o. numbers_in names (response h o)),
      )
