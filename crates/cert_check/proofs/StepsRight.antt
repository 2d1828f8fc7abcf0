-- Steps that are right, and steps that are not.
use Rattle.std.proofs.Common.{◌≡◌, ℕ, zero, suc, ◌<◌, Option, Some, None, List, [], ◌∷◌, map, length, refl}
use Rattle.std.proofs.Common.{sym, ◌∙◌, ap, subst, arith}
use Rattle.std.specs.Prelude.{slice_get, unwrap_or, option_map, IsSome}
use Rattle.events.specs.declared.entry.Body.{Body}
use Rattle.std.proofs.lemmas.List.{length-map}
use Rattle.events.specs.Names.{NameBytes}
use Rattle.events.specs.Operation.{Operation}
use Rattle.events.specs.History.{History, IsLegal, response_of}
use Rattle.events.specs.Operations.{response, IsOperation, operation}
use Rattle.specification.specs.Responses.{responses_of, Shows}
use Rattle.specification.specs.Conflict.{ring, ring_from, Step, AreShownSteps}
use Rattle.specification.specs.ValidCertificate.{IsRightStep, StepIsRight}
use Rattle.specification.proofs.Members.{Before, All-from_members, place_of_In}
use Rattle.specification.proofs.Shown.{ShowsIn-from_Shows, Shows-from_ShowsIn}
use Rattle.specification.proofs.Strong.{returned_of, returned_by}
use Rattle.cert_check.specs.Ring.{next_place}
use Rattle.cert_check.proofs.Rings.{ends, begin, meets-at}

-- an operation shows what its response has in order
pub shows_in_response : (h : History) (o : Operation) (a b : NameBytes) → Shows (responses_of h) o a b
    → Before a b (response h o)
shows_in_response h o a b s =
    let r = ShowsIn-from_Shows (responses_of h) o a b s in
    let by = returned_by h r.0 r.1 in
    subst (λ (w : List NameBytes). Before a b w) (by.1 ∙ ap (response h) r.2) r.3

pub response_shows : (h : History) → IsLegal h → (o : Operation) (a b : NameBytes) → Before a b (response h o)
    → Shows (responses_of h) o a b
response_shows h legal o a b before =
    Shows-from_ShowsIn (responses_of h) o a b (
      record { by = o; names = response h o },
      returned_of h o legal (is_operation before),
      refl,
      before,
    )
  where
    some : (b' : Option Body) → Before a b (unwrap_or (option_map response_of b') []) → IsSome b'
    some None k = absurd k
    some (Some body) k = refl

    is_operation : Before a b (response h o) → IsOperation h o
    is_operation k = some (operation h o) k

module _ (h : History) (legal : IsLegal h) (steps : List Step) (i : ℕ) (s next : Step) (lt : i < length steps)
    (at : slice_get steps i ≡ Some s) (behind : slice_get steps (next_place (length steps) i)
    ≡ Some next) where
  pub right_step : s.to ≡ next.from → Before s.from s.to (response h s.shown)
      → StepIsRight (responses_of h) steps i
  right_step joins shown t at_t =
      let e : Some t ≡ Some s = sym at_t ∙ at in
      let same : t ≡ s = Prim.cc in
      let m = meets-at steps i s next lt at behind in
      subst (IsRightStep (responses_of h) steps i) (sym same) (record {
        shown = response_shows h legal s.shown s.from s.to shown;
        meets = m.0 ∙ ap (λ (b : NameBytes). Some (s.from, b)) joins ∙ sym m.1;
      })

  pub right_joins : StepIsRight (responses_of h) steps i → s.to ≡ next.from
  right_joins right =
      let m = meets-at steps i s next lt at behind in
      let e : Some (s.from, s.to) ≡ Some (s.from, next.from) = sym m.0 ∙ (right s at).meets ∙ m.1 in
      let f : (s.from, s.to) ≡ (s.from, next.from) = Prim.cc in
      ap (λ (p : NameBytes × NameBytes). p.1) f

  pub right_shows : StepIsRight (responses_of h) steps i → Before s.from s.to (response h s.shown)
  right_shows right = shows_in_response h s.shown s.from s.to (right s at).shown

-- lists that are as long and alike at each place are the same
same_list : {X : Type 0} (xs ys : List X) → length xs ≡ length ys
    → ((i : ℕ) → i < length xs → slice_get xs i ≡ slice_get ys i) → xs ≡ ys
same_list [] [] size all = refl
same_list [] (y ∷ ys) size all = absurd (omega arith)
same_list (x ∷ xs) [] size all = absurd (omega arith)
same_list (x ∷ xs) (y ∷ ys) size all =
    let first : Some x ≡ Some y = all 0 (omega arith) in
    let e : x ≡ y = Prim.cc in
    ap (λ (z : _). z ∷ xs) e
    ∙ ap (λ l. y ∷ l) (same_list xs ys (omega arith) (λ i lt. all (suc i) (omega arith)))

ring_from-length : (first last : NameBytes) (rest : List NameBytes)
    → length (ring_from first last rest) ≡ suc (length rest)
ring_from-length first last [] = refl
ring_from-length first last (a ∷ rest) = ap suc (ring_from-length first a rest)

ring-length : (xs : List NameBytes) → length (ring xs) ≡ length xs
ring-length [] = refl
ring-length (x ∷ xs) = ring_from-length x x xs

-- where each step is right they are a cycle's
pub all_right : (h : History) (steps : List Step) → ((i : ℕ) → i < length steps
    → StepIsRight (responses_of h) steps i) → AreShownSteps (responses_of h) steps
all_right h steps right = record {
  joined = same_list (map ends steps) (ring (map begin steps)) size (λ i lt.
      let le : i < length steps = omega (arith, count) in
      let s = there steps i le in
      (right i le s.0 s.1).meets);
  shown = All-from_members (λ (s : Step). Shows (responses_of h) s.shown s.from s.to) steps (λ s i.
      let p = place_of_In steps s i in
      (right p.0 p.1 s p.2).shown);
}
  where
    count : length (map ends steps) ≡ length steps
    count = length-map {B = NameBytes × NameBytes} steps ends

    size : length (map ends steps) ≡ length (ring (map begin steps))
    size = count ∙ sym (length-map {B = NameBytes} steps begin) ∙ sym (ring-length (map begin steps))

    there : (xs : List Step) (i : ℕ) → i < length xs → (s : Step) × (slice_get xs i ≡ Some s)
    there [] i lt = absurd (omega arith)
    there (x ∷ xs) zero lt = (x, refl)
    there (x ∷ xs) (suc i) lt = there xs i (omega arith)
