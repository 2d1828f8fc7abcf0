-- What is thinned has the same pairs in order, and so the same walks, cycles and least cycles.
use Rattle.std.proofs.Common.{◌≡◌, ◌≢◌, ℕ, zero, suc, ◌<◌, ◌≤◌, inl, inr, Bool, true, false, Option, Some, None}
use Rattle.std.proofs.Common.{List, [], ◌∷◌, length, set, get_or-set_other, slice_index}
use Rattle.std.proofs.Common.{refl, sym, ◌∙◌, ap, subst, arith}
use Rattle.std.specs.Prelude.{IfSome}
use Rattle.std.proofs.lemmas.Bool.{cases_eq}
use Rattle.events.specs.Names.{NameBytes}
use Rattle.specification.specs.Conflict.{IsCycle}
use Rattle.specification.specs.Elements.{numbers_in}
use Rattle.specification.specs.Responses.{Responses, AreProper, place_count}
use Rattle.specification.specs.Search.{IsShortestLength}
use Rattle.specification.proofs.Cycles.{cycle-elements}
use Rattle.specification.proofs.Shown.{elements-once}
use Rattle.order_graph.specs.Emptied.{emptied_rows, is_marked, unless}
use Rattle.order_graph.specs.Kept.{names_at}
use Rattle.order_graph.specs.Lists.{lists_of, row, BeforeIn, Stands}
use Rattle.order_graph.proofs.Emptied.{emptied-none, emptied-places, emptied-proper, emptied-row, lists_emptied}
use Rattle.order_graph.proofs.ReadBack.{read-back}
use Rattle.list_search.specs.Graph.{Before}
use Rattle.list_search.specs.Rings.{IsFirstRing, IsRing, Leads}
use Rattle.list_search.proofs.Joining.{ring_of_cycle, cycle_of_ring}
use Rattle.level_search.specs.Team.{IsLeastLength}
use Rattle.level_search.specs.Thinned.{searched_of, AllIsShown, IsHeld, IsThinned}

-- one list more is left out, which another that is kept holds
pub thinned-one : (rows : List (List ℕ)) (marks : List Bool) (l m : ℕ) → AllIsShown rows marks
    → IsHeld (row rows l) (row rows m) → m ≢ l → is_marked marks m ≡ false
    → AllIsShown rows (set marks l true)
thinned-one rows marks l m shown held apart kept a b before =
    let w = shown a b before in
    elim (cases_eq w.0 l) [
      | inl e ↦
          let here : BeforeIn rows l a b = subst (λ n. BeforeIn rows n a b) e w.2 in
          let h = held here.place here.later here.in_order here.second.within in (
            m,
            get_or-set_other marks l m true false apart ∙ kept,
            record {
              place = h.0;
              later = h.1;
              in_order = h.2;
              first = record { within = (let one = h.2 in let two = h.3 in omega arith); here = h.4 ∙ here.first.here };
              second = record { within = h.3; here = h.5 ∙ here.second.here };
            },
          )
      | inr other ↦ (w.0, get_or-set_other marks l w.0 true false other ∙ w.1, w.2)
    ]

no-mark : (l : ℕ) → is_marked [] l ≡ false
no-mark zero = refl
no-mark (suc l) = refl

-- at first nothing is marked
pub all-shown : (rows : List (List ℕ)) (marks : List Bool) → ((l : ℕ) → is_marked marks l ≡ false)
    → AllIsShown rows marks
all-shown rows marks none a b before = (
  before.list,
  none before.list,
  record {
    place = before.place;
    later = before.later;
    in_order = before.in_order;
    first = before.first;
    second = before.second;
  },
)

left-within : (m : Bool) (r : List ℕ) (p : ℕ) → p < length (unless m r) → p < length r
left-within true r p within = absurd (omega arith)
left-within false r p within = within

left-here : (m : Bool) (r : List ℕ) (p x : ℕ) → p < length (unless m r) → slice_index (unless m r) p ≡ x
    → slice_index r p ≡ x
left-here true r p x within here = absurd (omega arith)
left-here false r p x within here = here

-- what is left stands where it stood
stands-left : (rows : List (List ℕ)) (marks : List Bool) (l p x : ℕ)
    → Stands (emptied_rows marks rows) l p x → Stands rows l p x
stands-left rows marks l p x stands =
    let e = emptied-row marks rows l in
    let within : p < length (unless (is_marked marks l) (row rows l)) =
    subst (λ (r : List ℕ). p < length r) e stands.within in
    record {
      within = left-within (is_marked marks l) (row rows l) p within;
      here =
          left-here (is_marked marks l) (row rows l) p x within
          (ap (λ (r : List ℕ). slice_index r p) (sym e) ∙ stands.here);
    }

before-left : (rows : List (List ℕ)) (marks : List Bool) (a b : ℕ) → Before (emptied_rows marks rows) a b
    → Before rows a b
before-left rows marks a b before = record {
  list = before.list;
  place = before.place;
  later = before.later;
  in_order = before.in_order;
  first = stands-left rows marks before.list before.place a before.first;
  second = stands-left rows marks before.list before.later b before.second;
}

before-stays : (rows : List (List ℕ)) (marks : List Bool) → AllIsShown rows marks → (a b : ℕ)
    → Before rows a b → Before (emptied_rows marks rows) a b
before-stays rows marks shown a b before =
    let w = shown a b before in
    let e : row (emptied_rows marks rows) w.0 ≡ row rows w.0 =
    emptied-row marks rows w.0 ∙ ap (λ m. unless m (row rows w.0)) w.1 in
    record {
      list = w.0;
      place = w.2.place;
      later = w.2.later;
      in_order = w.2.in_order;
      first = record {
        within = subst (λ (r : List ℕ). w.2.place < length r) (sym e) w.2.first.within;
        here = ap (λ (r : List ℕ). slice_index r w.2.place) e ∙ w.2.first.here;
      };
      second = record {
        within = subst (λ (r : List ℕ). w.2.later < length r) (sym e) w.2.second.within;
        here = ap (λ (r : List ℕ). slice_index r w.2.later) e ∙ w.2.second.here;
      };
    }

-- rings stay where pairs in order do
module _ (rows other : List (List ℕ)) (more : (a b : ℕ) → Before rows a b → Before other a b) where
  leads-more : (a : ℕ) (path : List ℕ) (z : ℕ) → Leads rows a path z → Leads other a path z
  leads-more a [] z leads = more a z leads
  leads-more a (b ∷ rest) z leads = (more a b leads.0, leads-more b rest z leads.1)

  pub ring-more : (ring : List ℕ) → IsRing rows ring → IsRing other ring
  ring-more [] ring = ring
  ring-more (a ∷ rest) ring = leads-more a rest a ring

-- and cycles
cycle-more : (v w : Responses) → AreProper v → AreProper w → w.elements ≡ v.elements
    → ((a b : ℕ) → Before (lists_of v) a b → Before (lists_of w) a b)
    → (cycle : List NameBytes) → IsCycle v cycle → IsCycle w cycle
cycle-more v w proper other_proper same more cycle is =
    let numbers : List ℕ = numbers_in v.elements cycle in
    let ring : IsRing (lists_of w) numbers =
    ring-more (lists_of v) (lists_of w) more numbers (ring_of_cycle v proper cycle is) in
    let back : names_at w.elements numbers ≡ cycle =
    ap (λ e. names_at e numbers) same
    ∙ read-back v.elements cycle (elements-once v proper) (cycle-elements v proper cycle is) in
    subst (IsCycle w) back (cycle_of_ring w other_proper numbers ring)

module _ (v t : Responses) (thin : IsThinned v t) where
  pub thinned-elements : t.elements ≡ v.elements
  thinned-elements = ap (λ (r : Responses). r.elements) thin.is_emptied

  pub thinned-places : place_count t ≤ place_count v
  thinned-places =
      subst (λ (r : Responses). place_count r ≤ place_count v) (sym thin.is_emptied)
      (emptied-places thin.marks v.returned)

  lists-thinned : lists_of t ≡ emptied_rows thin.marks (lists_of v)
  lists-thinned = ap lists_of thin.is_emptied ∙ lists_emptied v thin.marks

  pub before-thinned : (a b : ℕ) → Before (lists_of v) a b → Before (lists_of t) a b
  before-thinned a b before =
      subst (λ rows. Before rows a b) (sym lists-thinned)
      (before-stays (lists_of v) thin.marks thin.all_is_shown a b before)

  pub before-whole : (a b : ℕ) → Before (lists_of t) a b → Before (lists_of v) a b
  before-whole a b before =
      before-left (lists_of v) thin.marks a b (subst (λ rows. Before rows a b) lists-thinned before)

  pub first-ring-whole : (k : ℕ) (ring : List ℕ) → IsFirstRing (lists_of t) k ring
      → IsFirstRing (lists_of v) k ring
  first-ring-whole k ring is = record {
    is_ring = ring-more (lists_of t) (lists_of v) before-whole ring is.is_ring;
    count = is.count;
    first = λ other round count. is.first other (ring-more (lists_of v) (lists_of t) before-thinned other round)
        count;
  }

  module _ (proper : AreProper v) where
    pub thinned-proper : AreProper t
    thinned-proper = subst AreProper (sym thin.is_emptied) (emptied-proper v thin.marks proper)

    cycle-whole : (cycle : List NameBytes) → IsCycle t cycle → IsCycle v cycle
    cycle-whole = cycle-more t v thinned-proper proper (sym thinned-elements) before-whole

    cycle-thinned : (cycle : List NameBytes) → IsCycle v cycle → IsCycle t cycle
    cycle-thinned = cycle-more v t proper thinned-proper thinned-elements before-thinned

    shortest-whole : (k : ℕ) → IsShortestLength t k → IsShortestLength v k
    shortest-whole k is =
        ((is.0.0, cycle-whole is.0.0 is.0.1, is.0.2), λ cycle round. is.1 cycle (cycle-thinned cycle round))

    pub shortest-thinned : (k : ℕ) → IsShortestLength v k → IsShortestLength t k
    shortest-thinned k is =
        ((is.0.0, cycle-thinned is.0.0 is.0.1, is.0.2), λ cycle round. is.1 cycle (cycle-whole cycle round))

    pub least-whole : (m : ℕ) → IsLeastLength t m → IsLeastLength v m
    least-whole m (inl is) = inl (shortest-whole m is)
    least-whole m (inr none) = inr (none.0, λ cycle round. none.1 cycle (cycle-thinned cycle round))

-- where nothing is left out, the whole is searched
pub searched-thinned : (v : Responses) (found : Option Responses) → IfSome found (IsThinned v)
    → IsThinned v (searched_of v found)
searched-thinned v None is = record {
  marks = [];
  is_emptied = (let same = emptied-none v.returned in
      λ i. record { elements = v.elements; returned = sym same i });
  all_is_shown = all-shown (lists_of v) [] no-mark;
}
searched-thinned v (Some t) is = is
