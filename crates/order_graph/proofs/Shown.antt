-- What an operation shows is what its list has: names by their numbers, and the least operation by the least
-- list.
use Rattle.std.proofs.Common.{◌≡◌, ◌≢◌, ℕ, zero, suc, ◌<◌, ◌≤◌, ◌⊎◌, inl, inr, Some, List, [], ◌∷◌, length}
use Rattle.std.proofs.Common.{map, get_or, refl, sym, ◌∙◌, ap, subst, arith}
use Rattle.std.specs.Prelude.{unwrap_or, slice_get, option_map, sum_by, All}
use Rattle.std.proofs.lemmas.Bool.{cases_lt, cases_eq}
use Rattle.std.proofs.lemmas.List.{get_or-map, length-map, get_or_past}
use Rattle.std.proofs.lemmas.List.Sums.{sum_by-cons}
use Rattle.std.proofs.lemmas.Option.{same_Some, slice_get-get_or, slice_get_within, get_or_from_slice_get}
use Rattle.events.specs.Names.{NameBytes}
use Rattle.events.specs.Operation.{Operation, ComesBefore, IsLeast}
use Rattle.specification.specs.Elements.{number_in, numbers_in}
use Rattle.specification.specs.Responses.{Responses, Returned, AreProper, ShowsNumbers, place_count}
use Rattle.specification.proofs.Members.{In-from_place, In-from_Contains, Contains-from_In, place_of_In}
use Rattle.specification.proofs.Members.{Before-from_places, AllPairs-Before}
use Rattle.specification.proofs.Shown.{elements-once, names-elements, ComesBefore-irreflexive}
use Rattle.specification.proofs.Dictionary.{ComesBefore-asymmetric}
use Rattle.order_graph.specs.Lists.{lists_of, row, Stands, BeforeIn, IsLeastList}
use Rattle.order_graph.specs.Kept.{returned_of}
use Rattle.element_numbers.proofs.NameNumbers.{number-at, number-some}

abbrev pub number_or : List NameBytes → NameBytes → ℕ
number_or names a = unwrap_or (number_in names a) (length names)

-- the operation of each list
pub shown_of : (names : List NameBytes) (shown : List Operation) (rows : List (List ℕ)) (l : ℕ)
    → length shown ≡ length rows
    → option_map (λ (r : Returned). r.by) (slice_get (returned_of names shown rows) l) ≡ slice_get shown l
shown_of names [] rows l same = refl
shown_of names (o ∷ os) [] l same = absurd (omega arith)
shown_of names (o ∷ os) (r ∷ rs) zero same = refl
shown_of names (o ∷ os) (r ∷ rs) (suc l) same = shown_of names os rs l (omega arith)

-- no list is longer than all together
pub row-le : (rows : List (List ℕ)) (l : ℕ) → length (row rows l) ≤ sum_by (λ r. length r) rows
row-le [] l = omega arith
row-le (r ∷ rs) zero = omega (arith, sum_by-cons (λ (l : List ℕ). length l) r rs)
row-le (r ∷ rs) (suc l) = omega (arith, row-le rs l, sum_by-cons (λ (l : List ℕ). length l) r rs)

total-go : (names : List NameBytes) (rs : List Returned)
    → sum_by (λ r. length r) (map (λ (r : Returned). numbers_in names r.names) rs)
    ≡ sum_by (λ (r : Returned). length r.names) rs
total-go names [] = refl
total-go names (r ∷ rs) =
    omega (
      arith,
      total-go names rs,
      sum_by-cons (λ (l : List ℕ). length l) (numbers_in names r.names)
          (map (λ (r : Returned). numbers_in names r.names) rs),
      sum_by-cons (λ (r : Returned). length r.names) r rs,
      length-map r.names (number_or names),
    )

-- as many places as the responses have
pub lists-total : (v : Responses) → sum_by (λ r. length r) (lists_of v) ≡ place_count v
lists-total v = total-go v.elements v.returned

-- the list of a response
list-of : (v : Responses) (l : ℕ) (r : Returned) → slice_get v.returned l ≡ Some r
    → row (lists_of v) l ≡ numbers_in v.elements r.names
list-of v l r at =
    get_or-map (λ (r : Returned). numbers_in v.elements r.names) v.returned l r []
    (slice_get_within v.returned l r at)
    ∙ ap (λ (r : Returned). numbers_in v.elements r.names) (get_or_from_slice_get v.returned l r r at)

-- the name at a place of a response
pub record IsNameAt (v : Responses) (l p x : ℕ) : Type 0 where
  pub by : Returned
  pub at : slice_get v.returned l ≡ Some by
  pub name : NameBytes
  pub there : slice_get by.names p ≡ Some name
  pub named : slice_get v.elements x ≡ Some name

module _ (v : Responses) (proper : AreProper v) where
  pub stands-named : (l p x : ℕ) (r : Returned) (a : NameBytes) → slice_get v.returned l ≡ Some r
      → slice_get r.names p ≡ Some a → slice_get v.elements x ≡ Some a → Stands (lists_of v) l p x
  stands-named l p x r a at there named =
      let list : row (lists_of v) l ≡ numbers_in v.elements r.names = list-of v l r at in
      let within : p < length r.names = slice_get_within r.names p a there in
      let same : length (numbers_in v.elements r.names) ≡ length r.names =
      length-map r.names (number_or v.elements) in
      let number : number_in v.elements a ≡ Some x =
      number-at v.elements x a (elements-once v proper) named in
      record {
        within = subst (λ (w : List ℕ). p < length w) (sym list) (omega arith);
        here = ap (λ (w : List ℕ). get_or w p 0) list ∙ get_or-map (number_or v.elements) r.names p a 0 within
            ∙ ap (number_or v.elements) (get_or_from_slice_get r.names p a a there)
            ∙ ap (λ n. unwrap_or n (length v.elements)) number;
      }

  pub named-stands : (l p x : ℕ) → Stands (lists_of v) l p x → IsNameAt v l p x
  named-stands l p x stands = go (cases_lt l (length v.returned))
    where
      in_response : (r : Returned) → slice_get v.returned l ≡ Some r → IsNameAt v l p x
      in_response r at =
          let list : row (lists_of v) l ≡ numbers_in v.elements r.names = list-of v l r at in
          let same : length (numbers_in v.elements r.names) ≡ length r.names =
          length-map r.names (number_or v.elements) in
          let low : p < length (numbers_in v.elements r.names) =
          subst (λ (w : List ℕ). p < length w) list stands.within in
          let within : p < length r.names = omega arith in
          let a : NameBytes = get_or r.names p [] in
          let there : slice_get r.names p ≡ Some a = slice_get-get_or r.names p [] within in
          let s = number-some v.elements a (elements-once v proper)
          (names-elements v proper r (In-from_place v.returned l r at) a
          (In-from_place r.names p a there)) in
          let number : s.0 ≡ x =
          sym (ap (λ n. unwrap_or n (length v.elements)) s.2)
          ∙ sym (get_or-map (number_or v.elements) r.names p [] 0 within)
          ∙ sym (ap (λ (w : List ℕ). get_or w p 0) list) ∙ stands.here in
          record {
            by = r;
            at = at;
            name = a;
            there = there;
            named = subst (λ n. slice_get v.elements n ≡ Some a) number s.1;
          }

      go : (l < length v.returned) ⊎ (length v.returned ≤ l) → IsNameAt v l p x
      go (inl lt) = let d : Returned = record { by = record { replica = 0; n = 0 }; names = [] } in
          in_response (get_or v.returned l d) (slice_get-get_or v.returned l d lt)
      go (inr past) =
          let many : length (lists_of v) ≡ length v.returned =
          length-map v.returned (λ (r : Returned). numbers_in v.elements r.names) in
          let none : row (lists_of v) l ≡ [] = get_or_past (lists_of v) l [] (omega arith) in
          let bad : p < length {A = ℕ} [] = subst (λ (w : List ℕ). p < length w) none stands.within in
          absurd (omega arith)

  -- each number in a list is an element's
  pub known-numbers : (l : ℕ) → All (λ x. x < length v.elements) (row (lists_of v) l)
  known-numbers l p d within =
      let x : ℕ = get_or (row (lists_of v) l) p d in
      let same : get_or (row (lists_of v) l) p 0 ≡ x = same_default (row (lists_of v) l) p 0 d within in
      let named = named-stands l p x (record { within = within; here = same }) in
      slice_get_within v.elements x named.name named.named
    where
      same_default : (xs : List ℕ) (p c d : ℕ) → p < length xs → get_or xs p c ≡ get_or xs p d
      same_default [] p c d lt = absurd (omega arith)
      same_default (x ∷ xs) zero c d lt = refl
      same_default (x ∷ xs) (suc p) c d lt = same_default xs p c d (omega arith)

  one_same : (r s : Returned) (l : ℕ) → slice_get v.returned l ≡ Some r → slice_get v.returned l ≡ Some s
      → r ≡ s
  one_same r s l e f = same_Some r s (sym e ∙ f)

  -- what a list has in order its operation shows
  pub shows-list : (l a b : ℕ) (r : Returned) → slice_get v.returned l ≡ Some r → BeforeIn (lists_of v) l a b
      → ShowsNumbers v r.by a b
  shows-list l a b r at before =
      let first = named-stands l before.place a before.first in
      let second = named-stands l before.later b before.second in
      let one : first.by ≡ r = one_same first.by r l first.at at in
      let two : second.by ≡ r = one_same second.by r l second.at at in (
        first.name,
        second.name,
        first.named,
        second.named,
        (
          r,
          Contains-from_In v.returned r (In-from_place v.returned l r at),
          refl,
          (
            before.place,
            before.later,
            before.in_order,
            subst (λ (s : Returned). slice_get s.names before.place ≡ Some first.name) one first.there,
            subst (λ (s : Returned). slice_get s.names before.later ≡ Some second.name) two second.there,
          ),
        ),
      )

  -- and what an operation shows its list has in order
  pub list-shows : (o : Operation) (a b : ℕ) → ShowsNumbers v o a b → (l : ℕ) × (r : Returned)
      × (slice_get v.returned l ≡ Some r) × (r.by ≡ o) × BeforeIn (lists_of v) l a b
  list-shows o a b shows =
      let shown = shows.4 in
      let r : Returned = shown.0 in
      let p = place_of_In v.returned r (In-from_Contains v.returned r shown.1) in
      let order = shown.3 in (
        p.0,
        r,
        p.2,
        shown.2,
        record {
          place = order.0;
          later = order.1;
          in_order = order.2;
          first = stands-named p.0 order.0 a r shows.0 p.2 order.3 shows.2;
          second = stands-named p.0 order.1 b r shows.1 p.2 order.4 shows.3;
        },
      )

  pub none-shown : (a b : ℕ) → ((l : ℕ) → BeforeIn (lists_of v) l a b → ⊥) → (o : Operation)
      → ShowsNumbers v o a b → ⊥
  none-shown a b none o shows = let s = list-shows o a b shows in none s.0 s.4

  pub least-shown : (a b l : ℕ) (r : Returned) → slice_get v.returned l ≡ Some r
      → IsLeastList (lists_of v) a b l → IsLeast (λ o. ShowsNumbers v o a b) r.by
  least-shown a b l r at is = record {
    holds = shows-list l a b r at is.shows;
    least = λ f shows less. let s = list-shows f a b shows in
        later s.0 s.1 s.2 (is.least s.0 s.4) (subst (λ (o : Operation). ComesBefore o r.by) (sym s.3) less);
  }
    where
      later : (m : ℕ) (s : Returned) → slice_get v.returned m ≡ Some s → l ≤ m → ComesBefore s.by r.by → ⊥
      later m s there le less = go (cases_eq l m)
        where
          go : (l ≡ m) ⊎ (l ≢ m) → ⊥
          go (inl e) =
              let same : r ≡ s =
              one_same r s l at (subst (λ n. slice_get v.returned n ≡ Some s) (sym e) there) in
              ComesBefore-irreflexive r.by (subst (λ (q : Returned). ComesBefore q.by r.by) (sym same) less)
          go (inr n) =
              let lt : l < m = omega arith in
              let order : ComesBefore r.by s.by =
              AllPairs-Before (λ (x y : Returned). ComesBefore x.by y.by) v.returned r s proper.in_order
              (Before-from_places v.returned r s l m lt at there) in
              ComesBefore-asymmetric r.by s.by order less
