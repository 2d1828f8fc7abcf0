-- Rows of which some are left empty read as such responses, which are proper and few where the whole are.
use Rattle.std.proofs.Common.{◌≡◌, ◌≢◌, ℕ, zero, suc, ◌<◌, ◌≤◌, Bool, true, false, List, [], ◌∷◌, ◌++◌, length}
use Rattle.std.proofs.Common.{map, get_or, refl, sym, ◌∙◌, ap, subst, arith}
use Rattle.std.specs.Prelude.{All, AllPairs, Contains, sum_by, take}
use Rattle.std.proofs.lemmas.List.Sums.{sum_by-cons}
use Rattle.events.specs.Names.{NameBytes}
use Rattle.events.specs.Operation.{Operation, ComesBefore}
use Rattle.specification.specs.Elements.{numbers_in}
use Rattle.specification.specs.Responses.{Responses, Returned, AreProper}
use Rattle.order_graph.specs.Emptied.{emptied, emptied_returned, emptied_rows, is_marked, unless}
use Rattle.order_graph.specs.Kept.{names_at, returned_of, responses_kept}
use Rattle.order_graph.specs.Lists.{lists_of, row, AreFew}

-- nothing of a response that is marked
abbrev blank : Bool → Returned → Returned
blank m r = record { by = r.by; names = unless m r.names }

-- one row after the others
pub emptied-next : (marks : List Bool) (rows : List (List ℕ)) (l : ℕ) → l < length rows
    → emptied_rows marks (take (suc l) rows)
    ≡ emptied_rows marks (take l rows) ++ unless (is_marked marks l) (row rows l) ∷ []
emptied-next marks [] l lt = absurd (omega arith)
emptied-next [] (r ∷ rs) zero lt = refl
emptied-next [] (r ∷ rs) (suc l) lt = ap (λ x. r ∷ x) (emptied-next [] rs l (omega arith))
emptied-next (m ∷ ms) (r ∷ rs) zero lt = refl
emptied-next (m ∷ ms) (r ∷ rs) (suc l) lt = ap (λ x. unless m r ∷ x) (emptied-next ms rs l (omega arith))

-- a row is as it was, or empty
pub emptied-row : (marks : List Bool) (rows : List (List ℕ)) (l : ℕ)
    → row (emptied_rows marks rows) l ≡ unless (is_marked marks l) (row rows l)
emptied-row [] [] zero = refl
emptied-row [] [] (suc l) = refl
emptied-row (true ∷ ms) [] zero = refl
emptied-row (false ∷ ms) [] zero = refl
emptied-row (m ∷ ms) [] (suc l) = emptied-row ms [] l
emptied-row [] (r ∷ rs) zero = refl
emptied-row [] (r ∷ rs) (suc l) = emptied-row [] rs l
emptied-row (m ∷ ms) (r ∷ rs) zero = refl
emptied-row (m ∷ ms) (r ∷ rs) (suc l) = emptied-row ms rs l

pub length-emptied_rows : (marks : List Bool) (rows : List (List ℕ))
    → length (emptied_rows marks rows) ≡ length rows
length-emptied_rows marks [] = refl
length-emptied_rows [] (r ∷ rs) = ap suc (length-emptied_rows [] rs)
length-emptied_rows (m ∷ ms) (r ∷ rs) = ap suc (length-emptied_rows ms rs)

pub length-emptied : (marks : List Bool) (rs : List Returned) → length (emptied_returned marks rs) ≡ length rs
length-emptied marks [] = refl
length-emptied [] (r ∷ rs) = ap suc (length-emptied [] rs)
length-emptied (m ∷ ms) (r ∷ rs) = ap suc (length-emptied ms rs)

-- no mark, and nothing is left out
pub emptied-none : (rs : List Returned) → emptied_returned [] rs ≡ rs
emptied-none [] = refl
emptied-none (r ∷ rs) = ap (λ x. r ∷ x) (emptied-none rs)

-- what holds of each response, and also where nothing of it is left
module _ (P : Returned → Type 0) (none : (m : Bool) (r : Returned) → P r → P (blank m r)) where
  pub emptied-all : (marks : List Bool) (rs : List Returned) → All P rs → All P (emptied_returned marks rs)
  emptied-all marks [] all k d lt = all k d lt
  emptied-all [] (r ∷ rs) all zero d lt = all zero d (omega arith)
  emptied-all [] (r ∷ rs) all (suc k) d lt =
      emptied-all [] rs (λ j e under. all (suc j) e (omega arith)) k d (omega arith)
  emptied-all (m ∷ ms) (r ∷ rs) all zero d lt = none m r (all zero d (omega arith))
  emptied-all (m ∷ ms) (r ∷ rs) all (suc k) d lt =
      emptied-all ms rs (λ j e under. all (suc j) e (omega arith)) k d (omega arith)

-- the operation at a place is as it was
emptied-by : (marks : List Bool) (rs : List Returned) (k : ℕ) (d : Returned)
    → (get_or (emptied_returned marks rs) k d).by ≡ (get_or rs k d).by
emptied-by marks [] k d = refl
emptied-by [] (r ∷ rs) zero d = refl
emptied-by [] (r ∷ rs) (suc k) d = emptied-by [] rs k d
emptied-by (m ∷ ms) (r ∷ rs) zero d = refl
emptied-by (m ∷ ms) (r ∷ rs) (suc k) d = emptied-by ms rs k d

pub emptied-proper : (v : Responses) (marks : List Bool) → AreProper v → AreProper (emptied v marks)
emptied-proper v marks proper = record {
  distinct = proper.distinct;
  few = proper.few;
  in_order = λ i j d lt within.
      (let high : j < length v.returned = omega (arith, length-emptied marks v.returned) in
      subst (λ o. ComesBefore o (get_or (emptied_returned marks v.returned) j d).by)
      (sym (emptied-by marks v.returned i d))
      (subst (λ o. ComesBefore (get_or v.returned i d).by o) (sym (emptied-by marks v.returned j d))
      (proper.in_order i j d lt high)));
  of_elements = emptied-all (λ (r : Returned). All (λ a. Contains v.elements a) r.names) (λ m r all.
      elim m as (λ b. All (λ a. Contains v.elements a) (unless b r.names)) [
        | true ↦ λ k d lt. absurd (omega arith)
        | false ↦ all
      ]) marks v.returned proper.of_elements;
  repeat_free = emptied-all (λ (r : Returned). AllPairs (λ a b. a ≢ b) r.names) (λ m r apart.
      elim m as (λ b. AllPairs (λ a b. a ≢ b) (unless b r.names)) [
        | true ↦ λ i j d lt within. absurd (omega arith)
        | false ↦ apart
      ]) marks v.returned proper.repeat_free;
}

unless-le : (m : Bool) (w : List NameBytes) → length (unless m w) ≤ length w
unless-le true w = omega arith
unless-le false w = omega arith

-- the responses have no more places than before
pub emptied-places : (marks : List Bool) (rs : List Returned)
    → sum_by (λ (r : Returned). length r.names) (emptied_returned marks rs)
    ≤ sum_by (λ (r : Returned). length r.names) rs
emptied-places marks [] = omega arith
emptied-places [] (r ∷ rs) =
    omega (
      arith,
      emptied-places [] rs,
      sum_by-cons (λ (r : Returned). length r.names) r rs,
      sum_by-cons (λ (r : Returned). length r.names) r (emptied_returned [] rs),
    )
emptied-places (m ∷ ms) (r ∷ rs) =
    omega (
      arith,
      emptied-places ms rs,
      unless-le m r.names,
      sum_by-cons (λ (r : Returned). length r.names) r rs,
      sum_by-cons (λ (r : Returned). length r.names) (blank m r) (emptied_returned ms rs),
    )

emptied-few : (v : Responses) (marks : List Bool) → AreFew v → AreFew (emptied v marks)
emptied-few v marks few = record {
  lists = omega (arith, few.lists, length-emptied marks v.returned);
  places = omega (arith, few.places, emptied-places marks v.returned);
}

emptied-numbers : (names : List NameBytes) (m : Bool) (w : List NameBytes)
    → numbers_in names (unless m w) ≡ unless m (numbers_in names w)
emptied-numbers names true w = refl
emptied-numbers names false w = refl

emptied-lists : (names : List NameBytes) (marks : List Bool) (rs : List Returned)
    → map (λ (r : Returned). numbers_in names r.names) (emptied_returned marks rs)
    ≡ emptied_rows marks (map (λ (r : Returned). numbers_in names r.names) rs)
emptied-lists names marks [] = refl
emptied-lists names [] (r ∷ rs) = ap (λ x. numbers_in names r.names ∷ x) (emptied-lists names [] rs)
emptied-lists names (m ∷ ms) (r ∷ rs) =
    let here = emptied-numbers names m r.names in
    let rest = emptied-lists names ms rs in
    λ i. here i ∷ rest i

-- its lists are those of the responses, but those that are marked are empty
pub lists_emptied : (v : Responses) (marks : List Bool)
    → lists_of (emptied v marks) ≡ emptied_rows marks (lists_of v)
lists_emptied v marks = emptied-lists v.elements marks v.returned

emptied-names : (names : List NameBytes) (m : Bool) (r : List ℕ)
    → names_at names (unless m r) ≡ unless m (names_at names r)
emptied-names names true r = refl
emptied-names names false r = refl

emptied-returned : (names : List NameBytes) (marks : List Bool) (os : List Operation) (rows : List (List ℕ))
    → length os ≡ length rows
    → returned_of names os (emptied_rows marks rows) ≡ emptied_returned marks (returned_of names os rows)
emptied-returned names marks [] [] same = refl
emptied-returned names marks [] (r ∷ rs) same = absurd (omega arith)
emptied-returned names marks (o ∷ os) [] same = absurd (omega arith)
emptied-returned names [] (o ∷ os) (r ∷ rs) same =
    ap (λ x. record { by = o; names = names_at names r } ∷ x) (emptied-returned names [] os rs (omega arith))
emptied-returned names (m ∷ ms) (o ∷ os) (r ∷ rs) same =
    let here = emptied-names names m r in
    let rest = emptied-returned names ms os rs (omega arith) in
    λ i. record { by = o; names = here i } ∷ rest i

-- names, operations and rows of responses of which some are left empty
pub record AreEmptied (whole : Responses) (marks : List Bool) (names : List NameBytes)
    (shown : List Operation) (rows : List (List ℕ)) : Type 0 where
  pub emptied_is : responses_kept names shown rows ≡ emptied whole marks
  pub proper : AreProper (responses_kept names shown rows)
  pub few : AreFew (responses_kept names shown rows)
  pub lists_are : lists_of (responses_kept names shown rows) ≡ rows
  pub count : length shown ≡ length rows

pub are-emptied : (names : List NameBytes) (shown : List Operation) (rows : List (List ℕ)) (marks : List Bool)
    → AreProper (responses_kept names shown rows) → AreFew (responses_kept names shown rows)
    → lists_of (responses_kept names shown rows) ≡ rows → length shown ≡ length rows
    → AreEmptied (responses_kept names shown rows) marks names shown (emptied_rows marks rows)
are-emptied names shown rows marks proper few lists_are count =
    let whole : Responses = responses_kept names shown rows in
    let same = emptied-returned names marks shown rows count in
    let is : responses_kept names shown (emptied_rows marks rows) ≡ emptied whole marks =
    λ i. record { elements = names; returned = same i } in
    record {
      emptied_is = is;
      proper = subst AreProper (sym is) (emptied-proper whole marks proper);
      few = subst AreFew (sym is) (emptied-few whole marks few);
      lists_are = ap lists_of is ∙ lists_emptied whole marks ∙ ap (emptied_rows marks) lists_are;
      count = omega (arith, count, length-emptied_rows marks rows);
    }
