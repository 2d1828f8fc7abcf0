-- An order in which each edge goes forwards is an order that follows every response, by names in place of
-- numbers.
use Rattle.std.proofs.Common.{◌≡◌, ℕ, zero, suc, ◌+◌, ◌-◌, ◌<◌, ◌≤◌, inl, inr, Some, List, [], ◌∷◌, map}
use Rattle.std.proofs.Common.{length, get_or, refl, sym, ◌∙◌, arith, ap, subst}
use Rattle.std.specs.Prelude.{IsTrue, slice_get, unwrap_or}
use Rattle.std.proofs.lemmas.List.FromFn.{fill_by_all}
use Rattle.std.proofs.lemmas.Option.{slice_get-get_or, same_Some}
use Rattle.events.specs.Names.{NameBytes}
use Rattle.events.specs.Operation.{Operation}
use Rattle.specification.specs.Elements.{number_in}
use Rattle.specification.specs.Responses.{Responses, Returned, AreProper, ShowsNumbers}
use Rattle.specification.specs.Orders.{dictionary_lt, IsLeastOrder, HasNoOrder}
use Rattle.specification.proofs.Members.{In, Before, Once, Before-first, Before-trans, In-map, In-from_place}
use Rattle.specification.proofs.Members.{In-from_Contains, Contains-from_In}
use Rattle.specification.proofs.Walks.{Closed}
use Rattle.specification.proofs.OrderOrCycle.{Orders}
use Rattle.specification.proofs.Numbers.{number}
use Rattle.specification.proofs.Dictionary.{same_number}
use Rattle.specification.proofs.Shown.{SetShows, ShowsIn, ShowsIn-from_Shows, Shows-from_ShowsIn}
use Rattle.specification.proofs.Shown.{elements-once}
use Rattle.specification.proofs.Consistency.{follows_from_order, order_from_follows, no_closed}
use Rattle.specification.proofs.LeastOrder.{all_operations, follows_set, follows_all}
use Rattle.order_graph.specs.Kept.{names_at}
use Rattle.order_graph.specs.Lists.{lists_of, row, Stands, BeforeIn}
use Rattle.element_numbers.proofs.NameNumbers.{number-at, number-some}
use Rattle.order_graph.proofs.Shown.{shows-list, list-shows, named-stands, known-numbers}
use Rattle.witness_order.specs.Edges.{AreNeighbours, AreSuccessors, edges}
use Rattle.witness_order.proofs.InTurn.{Leads, below, IsFirst, In-below, below-In}
use Rattle.witness_order.proofs.Counting.{occurrences-In, In-occurrences}

-- of neighbours in a list the first stands before the second there
pub neighbours-before : (rows : List (List ℕ)) (x y : ℕ) (two : AreNeighbours rows x y)
    → BeforeIn rows two.list x y
neighbours-before rows x y two = record {
  place = two.place;
  later = two.place + 1;
  in_order = omega arith;
  first = two.first;
  second = two.second;
}

-- an edge is two neighbouring places
module _ (rows : List (List ℕ)) (n : ℕ) (successors : List (List ℕ))
    (are : AreSuccessors rows n successors) where
  pub edge_sound : (x y : ℕ) → 1 ≤ edges successors x y → AreNeighbours rows x y
  edge_sound x y h =
      (are.listed x y).0 (Contains-from_In (row successors x) y (occurrences-In (row successors x) y h))

  edge_complete : (l p x y : ℕ) → Stands rows l p x → Stands rows l (p + 1) y → 1 ≤ edges successors x y
  edge_complete l p x y first second =
      In-occurrences (row successors x) y (In-from_Contains (row successors x) y
      ((are.listed x y).1 (record { list = l; place = p; first = first; second = second })))

  -- where each edge to what is in the order goes forwards, so does all that a list has before it
  module _ (known : (l p x : ℕ) → Stands rows l p x → x < n) (order : List ℕ) (once : Once order)
      (forwards : (a b : ℕ) → a < n → In b order → 1 ≤ edges successors a b → Before a b order) where
    neighbours_forwards : (l p a b : ℕ) → Stands rows l p a → Stands rows l (p + 1) b → In b order
        → Before a b order
    neighbours_forwards l p a b first second i =
        forwards a b (known l p a first) i (edge_complete l p a b first second)

    gap_forwards : (d l p a b : ℕ) → Stands rows l p a → Stands rows l (p + suc d) b → In b order
        → Before a b order
    gap_forwards zero l p a b first second i =
        neighbours_forwards l p a b first (subst (λ q. Stands rows l q b) (omega arith) second) i
    gap_forwards (suc d) l p a b first second i =
        let c : ℕ = get_or (row rows l) (p + suc d) 0 in
        let low : p + suc d < length (row rows l) = omega (arith, second.within) in
        let middle : Stands rows l (p + suc d) c = record { within = low; here = refl } in
        let last : Before c b order =
        neighbours_forwards l (p + suc d) c b middle (subst (λ q. Stands rows l q b) (omega arith) second)
        i in
        Before-trans a c b order once (gap_forwards d l p a c first middle (Before-first c b order last)) last

    pub list_forwards : (l a b : ℕ) → BeforeIn rows l a b → In b order → Before a b order
    list_forwards l a b h i =
        let d : (d : ℕ) × (h.later ≡ h.place + suc d) = gap h.place h.later h.in_order in
        gap_forwards d.0 l h.place a b h.first (subst (λ q. Stands rows l q b) d.1 h.second) i
      where
        gap : (p q : ℕ) → p < q → (d : ℕ) × (q ≡ p + suc d)
        gap p q lt = (q - suc p, omega arith)

-- an order whose members are renamed
module _ {X Y L K : Type 0} (S : L → X → X → Type 0) (T : K → Y → Y → Type 0) (f : X → Y) where
  map-In : (y : Y) (xs : List X) → In y (map f xs) → (x : X) × In x xs × (y ≡ f x)
  map-In y [] i = absurd i
  map-In y (x ∷ xs) (inl e) = (x, inl refl, e)
  map-In y (x ∷ xs) (inr i) = let s : (z : X) × In z xs × (y ≡ f z) = map-In y xs i in (s.0, inr s.1, s.2)

  Before-map : (a b : X) (xs : List X) → Before a b xs → Before (f a) (f b) (map f xs)
  Before-map a b [] h = h
  Before-map a b (x ∷ xs) (inl p) = inl (ap f p.0, In-map f b xs p.1)
  Before-map a b (x ∷ xs) (inr h) = inr (Before-map a b xs h)

  Once-map : (xs : List X) → ((a b : X) → In a xs → In b xs → f a ≡ f b → a ≡ b) → Once xs → Once (map f xs)
  Once-map [] apart o = tt
  Once-map (x ∷ xs) apart o = (
    λ i. let s : (z : X) × In z xs × (f x ≡ f z) = map-In (f x) xs i in
        o.0 (subst (λ z. In z xs) (sym (apart x s.0 (inl refl) (inr s.1) s.2)) s.1),
    Once-map xs (λ a b i j. apart a b (inr i) (inr j)) o.1,
  )

  pub Orders-map : (xs order : List X) → ((a b : X) → In a xs → In b xs → f a ≡ f b → a ≡ b) →
      ((k : K) (a b : X) → In a xs → In b xs → T k (f a) (f b) → Before a b order) → Orders S xs order
      → Orders T (map f xs) (map f order)
  Orders-map xs order apart forwards o = record {
    once = Once-map order (λ a b i j. apart a b (o.only a i) (o.only b j)) o.once;
    only = λ y i. let s : (z : X) × In z order × (y ≡ f z) = map-In y order i in
        subst (λ w. In w (map f xs)) (sym s.2) (In-map f s.0 xs (o.only s.0 s.1));
    all = λ y i. let s : (z : X) × In z xs × (y ≡ f z) = map-In y xs i in
        subst (λ w. In w (map f order)) (sym s.2) (In-map f s.0 order (o.all s.0 s.1));
    forwards = λ k y w i j t.
        let s : (z : X) × In z xs × (y ≡ f z) = map-In y xs i in
        let u : (z : X) × In z xs × (w ≡ f z) = map-In w xs j in
        subst (λ v. Before v w (map f order)) (sym s.2) (subst (λ v. Before (f s.0) v (map f order)) (sym u.2)
        (Before-map s.0 u.0 order
        (forwards k s.0 u.0 s.1 u.1 (subst (λ v. T k (f s.0) v) u.2 (subst (λ v. T k v w) s.2 t)))));
  }

-- the numbers of the names with these numbers
numbers_back : (names : List NameBytes) (xs : List ℕ) → Once names → ((x : ℕ) → In x xs → x < length names)
    → map (number names) (names_at names xs) ≡ xs
numbers_back names [] once within = refl
numbers_back names (x ∷ xs) once within =
    ap (λ n. n ∷ map (number names) (names_at names xs)) (number_of names x once (within x (inl refl)))
    ∙ ap (λ l. x ∷ l) (numbers_back names xs once (λ y i. within y (inr i)))
  where
    number_of : (names : List NameBytes) (x : ℕ) → Once names → x < length names
        → number names (get_or names x []) ≡ x
    number_of names x once lt =
        ap (λ n. unwrap_or n (length names))
        (number-at names x (get_or names x []) once (slice_get-get_or names x [] lt))

-- the names are those of the numbers
names_all : (names : List NameBytes) → names_at names (below (length names)) ≡ names
names_all names = sym (fill_by_all (λ x. get_or names x []) names (length names) [] refl (λ k lt. refl))

numbers_all : (names : List NameBytes) → Once names → map (number names) names ≡ below (length names)
numbers_all names once = ap (λ l. map (number names) l) (sym (names_all names))
    ∙ numbers_back names (below (length names)) once (In-below (length names))

name_at_number : (names : List NameBytes) (a : NameBytes) → Once names → In a names
    → slice_get names (number names a) ≡ Some a
name_at_number names a once i =
    let s = number-some names a once i in
    ap (λ o. slice_get names (unwrap_or o (length names))) s.2 ∙ s.1

pub known_below : (v : Responses) (proper : AreProper v) (l p x : ℕ) → Stands (lists_of v) l p x
    → x < length v.elements
known_below v proper l p x h =
    subst (λ z. z < length v.elements) h.here (known-numbers v proper l p 0 h.within)

module _ (v : Responses) (proper : AreProper v) (successors : List (List ℕ))
    (are : AreSuccessors (lists_of v) (length v.elements) successors) where
  names_follow : (taken : List ℕ) → Orders (Leads (edges successors)) (below (length v.elements)) taken →
      Orders (SetShows v (all_operations v)) v.elements (names_at v.elements taken)
  names_follow taken o =
      let name : ℕ → NameBytes = λ x. get_or v.elements x [] in
      subst (λ names. Orders (SetShows v (all_operations v)) names (names_at v.elements taken))
      (names_all v.elements)
      (Orders-map (Leads (edges successors)) (SetShows v (all_operations v)) name
      (below (length v.elements)) taken apart forwards o)
    where
      there : (a : ℕ) → In a (below (length v.elements))
          → slice_get v.elements a ≡ Some (get_or v.elements a [])
      there a i = slice_get-get_or v.elements a [] (In-below (length v.elements) a i)

      apart : (a b : ℕ) → In a (below (length v.elements)) → In b (below (length v.elements))
          → get_or v.elements a [] ≡ get_or v.elements b [] → a ≡ b
      apart a b i j e =
          let once : Once v.elements = elements-once v proper in
          let one : number_in v.elements (get_or v.elements a []) ≡ Some a =
          number-at v.elements a (get_or v.elements a []) once (there a i) in
          let two : number_in v.elements (get_or v.elements b []) ≡ Some b =
          number-at v.elements b (get_or v.elements b []) once (there b j) in
          same_Some a b (sym one ∙ ap (number_in v.elements) e ∙ two)

      forwards : (k : Operation) (a b : ℕ) → In a (below (length v.elements))
          → In b (below (length v.elements)) →
          SetShows v (all_operations v) k (get_or v.elements a []) (get_or v.elements b []) → Before a b taken
      forwards k a b i j s =
          let x : NameBytes = get_or v.elements a [] in
          let y : NameBytes = get_or v.elements b [] in
          let shows : ShowsNumbers v k a b = (x, y, there a i, there b j, Shows-from_ShowsIn v k x y s.1) in
          let l = list-shows v proper k a b shows in
          list_forwards (lists_of v) (length v.elements) successors are (known_below v proper) taken o.once
          (λ x y lt k h. o.forwards tt x y (below-In (length v.elements) x lt) (o.only y k) h) l.0 a b l.4
          (o.all b j)

  numbers_follow : (order : List NameBytes) → Orders (SetShows v (all_operations v)) v.elements order →
      Orders (Leads (edges successors)) (below (length v.elements)) (map (number v.elements) order)
  numbers_follow order o =
      subst (λ xs. Orders (Leads (edges successors)) xs (map (number v.elements) order))
      (numbers_all v.elements (elements-once v proper))
      (Orders-map (SetShows v (all_operations v)) (Leads (edges successors))
      (number v.elements) v.elements order
      (same_number v.elements (elements-once v proper)) forwards o)
    where
      forwards : (k : Unit {0}) (a b : NameBytes) → In a v.elements → In b v.elements
          → Leads (edges successors) k (number v.elements a) (number v.elements b) → Before a b order
      forwards k a b i j h =
          let once : Once v.elements = elements-once v proper in
          let two : AreNeighbours (lists_of v) (number v.elements a) (number v.elements b) =
          edge_sound (lists_of v) (length v.elements) successors are (number v.elements a)
          (number v.elements b) h in
          let before = neighbours-before (lists_of v) (number v.elements a) (number v.elements b) two in
          let named = named-stands v proper two.list two.place (number v.elements a) two.first in
          let r : Returned = named.by in
          let shows : ShowsNumbers v r.by (number v.elements a) (number v.elements b) =
          shows-list v proper two.list (number v.elements a) (number v.elements b) r named.at before in
          let one : shows.0 ≡ a = same_Some shows.0 a (sym shows.2 ∙ name_at_number v.elements a once i) in
          let other : shows.1 ≡ b = same_Some shows.1 b (sym shows.3 ∙ name_at_number v.elements b once j) in
          let shown : ShowsIn v r.by a b =
          subst (λ x. ShowsIn v r.by x b) one (subst (λ y. ShowsIn v r.by shows.0 y) other
          (ShowsIn-from_Shows v r.by shows.0 shows.1 shows.4)) in
          o.forwards r.by a b i j (
            In-map (λ (q : Returned). q.by) r v.returned
                (In-from_place v.returned two.list r named.at),
            shown,
          )

  pub least_from_first : (taken : List ℕ) → ((x : ℕ) → In x taken → x < length v.elements) →
      IsFirst (edges successors) (below (length v.elements)) taken
      → IsLeastOrder v (names_at v.elements taken)
  least_from_first taken within f =
      let names : List NameBytes = names_at v.elements taken in
      let set : List Operation = all_operations v in
      let follows = follows_from_order v proper set names (names_follow taken f.orders) in
      record {
        follows = (follows.0, follows_all v names follows.1);
        least = λ other g less.
            let o = order_from_follows v proper set other g.0 (follows_set v set other g.1) in
            f.first (map (number v.elements) other) (numbers_follow other o)
            (same_tests (map (number v.elements) other) less);
      }
    where
      map_same : (xs : List ℕ) → map (λ z. z) xs ≡ xs
      map_same [] = refl
      map_same (x ∷ xs) = ap (λ l. x ∷ l) (map_same xs)

      same_tests : (xs : List ℕ)
          → IsTrue (dictionary_lt xs (map (number v.elements) (names_at v.elements taken)))
          → IsTrue (dictionary_lt (map (λ z. z) xs) (map (λ z. z) taken))
      same_tests xs t =
          subst (λ ys. IsTrue (dictionary_lt (map (λ z. z) xs) ys))
          (numbers_back v.elements taken (elements-once v proper) within ∙ sym (map_same taken))
          (subst (λ ys. IsTrue (dictionary_lt ys (map (number v.elements) (names_at v.elements taken))))
          (sym (map_same xs)) t)

  pub none_from_closed : Closed (Leads (edges successors)) → HasNoOrder v
  none_from_closed c order f =
      let set : List Operation = all_operations v in
      let o = order_from_follows v proper set order f.0 (follows_set v set order f.1) in
      no_closed (Leads (edges successors)) (below (length v.elements)) (map (number v.elements) order)
      (λ k a b h.
      let two : AreNeighbours (lists_of v) a b =
      edge_sound (lists_of v) (length v.elements) successors are a b h in (
        below-In (length v.elements) a (known_below v proper two.list two.place a two.first),
        below-In (length v.elements) b (known_below v proper two.list (two.place + 1) b two.second),
      ))
      (numbers_follow order o) c
