-- What is kept of some of the elements reads as what is left of the responses.
use Rattle.std.proofs.Common.{◌≡◌, ◌≢◌, ℕ, ◌<◌, Option, List, length, map, refl, sym, ◌∙◌, ap, subst, arith}
use Rattle.std.specs.Prelude.{All, AllPairs}
use Rattle.std.proofs.lemmas.List.{length-map}
use Rattle.std.proofs.lemmas.Result.{IfOk-weaker}
use Rattle.events.specs.Names.{NameBytes}
use Rattle.events.specs.Operation.{Operation}
use Rattle.specification.specs.Elements.{number_in}
use Rattle.specification.specs.Responses.{Responses}
use Rattle.element_numbers.specs.Cuts.{rows_of}
use Rattle.element_numbers.specs.declared.rows.Rows.{Rows}
use Rattle.order_graph.specs.Kept.{names_at, responses_kept, AreListed}
use Rattle.order_graph.specs.Lists.{row}
use Rattle.order_graph.specs.Renumbered.{numbers_left}
use Rattle.order_graph.proofs.Renumbered.{AreLeft, whole-known, are-left}
use Rattle.order_graph.proofs.order_graph.OrderGraph.narrowed.Goals.{After-deref-2, In_ok-shown}
use Rattle.order_graph.proofs.order_graph.OrderGraph.narrowed.Goals as goal

-- the clauses speak of what is lent
lent-names : (names lent among : List NameBytes) (kept : List ℕ) → lent ≡ names → among ≡ names_at lent kept
    → among ≡ names_at names kept
lent-names names lent among kept e is = is ∙ ap (λ l. names_at l kept) e

lent-numbers : (names lent lent_again among : List NameBytes) (kept : List ℕ) (anew numbers : List (Option ℕ))
    → lent ≡ names → lent_again ≡ names
    → among ≡ names_at lent kept → numbers ≡ anew
    → anew ≡ map (number_in (names_at lent_again kept)) lent_again → numbers ≡ map (number_in among) names
lent-numbers names lent lent_again among kept anew numbers e e_again among_is n is =
    n ∙ is ∙ ap (λ l. map (number_in (names_at l kept)) l) e_again
    ∙ ap (λ l. map (number_in l) names) (sym (lent-names names lent among kept e among_is))

known-in : (v w : Responses) (kept : List ℕ) → v ≡ w → All (λ x. x < length w.elements) kept
    → All (λ x. x < length v.elements) kept
known-in v w kept e known = subst (λ (u : Responses). All (λ x. x < length u.elements) kept) (sym e) known

left-lent : (names lent lent_again among : List NameBytes) (kept : List ℕ)
    (shown lent_shown copied : List Operation) (places : Rows ℕ) (fewer : List (List ℕ))
    (anew numbers : List (Option ℕ)) (w : Responses)
    → AreListed names shown places → AllPairs (λ x y. x < y) kept
    → responses_kept names shown (rows_of places) ≡ w → All (λ x. x < length w.elements) kept
    → lent ≡ names → among ≡ names_at lent kept → lent_again ≡ names → numbers ≡ anew
    → anew ≡ map (number_in (names_at lent_again kept)) lent_again
    → fewer ≡ map (numbers_left numbers) (rows_of places) → lent_shown ≡ shown → copied ≡ lent_shown
    → AreLeft w (names_at w.elements kept) among copied fewer
left-lent names lent lent_again among kept shown lent_shown copied places fewer anew numbers w listed rising
    view_is known e among_is e_again n anew_is fewer_is s copied_is =
    let whole : Responses = responses_kept names shown (rows_of places) in
    let rows_left =
    fewer_is ∙ ap (λ l. map (numbers_left l) (rows_of places))
    (lent-numbers names lent lent_again among kept anew numbers e e_again among_is n anew_is) in
    subst (λ (u : Responses). AreLeft u (names_at u.elements kept) among copied fewer) view_is
    (subst (λ (l : List Operation). AreLeft whole (names_at names kept) among l fewer) (sym (copied_is ∙ s))
    (are-left names among kept shown (rows_of places) fewer listed.proper listed.few listed.lists_are
    listed.count rising (known-in whole w kept view_is known)
    (lent-names names lent among kept e among_is) rows_left))

kept-known : (c : After-deref-2) → All (λ x. x < length c.self.inside.names.items) c.args.kept.now
kept-known c =
    let g = c.self.inside in
    known-in (responses_kept g.names.items g.shown.items (rows_of g.places)) c.args.self.now
    c.args.kept.now c.self.view_is c.requires.known

are-lent : (c : In_ok-shown) → AreLeft c.args.self.now (names_at c.args.self.now.elements c.args.kept.now)
    c.in_ok-names.names.items c.in_ok-shown.shown.items (rows_of c.in_ok-places.places)
are-lent c =
    let g = c.self.inside in
    left-lent g.names.items c.deref.result.now c.deref-2.result.now c.in_ok-names.names.items
    c.args.kept.now g.shown.items c.as_slice.result.now c.in_ok-shown.shown.items g.places
    (rows_of c.in_ok-places.places) c.in_ok-anew.anew.items c.deref-3.result.now c.args.self.now
    c.self.invariant.listed c.requires.rising c.self.view_is c.requires.known c.deref.ensures.value
    c.in_ok-names.ensures c.deref-2.ensures.value c.deref-3.ensures.value c.in_ok-anew.ensures
    c.in_ok-places.ensures.rows c.as_slice.ensures.value c.in_ok-shown.ensures.items

pub new_numbers-requires-clause-distinct : goal.new_numbers-requires-clause-distinct
new_numbers-requires-clause-distinct c =
    subst (λ (l : List NameBytes). AllPairs (λ a b. a ≢ b) l)
    (sym c.deref-2.ensures.value) c.self.invariant.listed.proper.distinct

pub new_numbers-requires-clause-few : goal.new_numbers-requires-clause-few
new_numbers-requires-clause-few c =
    omega (
      arith,
      c.self.invariant.listed.proper.few,
      ap (λ (l : List NameBytes). length l) c.deref-2.ensures.value,
    )

pub new_numbers-requires-clause-known : goal.new_numbers-requires-clause-known
new_numbers-requires-clause-known c =
    let known = kept-known c in
    subst (λ (l : List NameBytes). All (λ x. x < length l) c.args.kept.now)
    (sym c.deref-2.ensures.value) known

pub places_left-requires-clause-known : goal.places_left-requires-clause-known
places_left-requires-clause-known c =
    let g = c.self.inside in
    let known = kept-known (goal.at.places_left-requires-clause-known c).After-deref-2 in
    let among_is =
    lent-names g.names.items c.deref.result.now c.in_ok-names.names.items c.args.kept.now
    c.deref.ensures.value c.in_ok-names.ensures in
    let anew_is =
    lent-numbers g.names.items c.deref.result.now c.deref-2.result.now c.in_ok-names.names.items
    c.args.kept.now c.in_ok-anew.anew.items c.deref-3.result.now c.deref.ensures.value
    c.deref-2.ensures.value c.in_ok-names.ensures c.deref-3.ensures.value c.in_ok-anew.ensures in
    let count : length c.deref-3.result.now ≡ length g.names.items =
    ap (λ (l : List (Option ℕ)). length l) anew_is
    ∙ length-map g.names.items (number_in c.in_ok-names.names.items) in
    let all : List (List ℕ) =
    map (numbers_left (map (number_in c.in_ok-names.names.items) g.names.items)) (rows_of g.places) in
    subst (λ n. (l : ℕ) → All (λ x. x < n) (row (rows_of g.places) l)) (sym count)
    (whole-known g.names.items c.in_ok-names.names.items c.args.kept.now g.shown.items
    (rows_of g.places) all c.self.invariant.listed.proper c.self.invariant.listed.few
    c.self.invariant.listed.lists_are c.self.invariant.listed.count c.requires.rising known among_is refl)

pub with_spots-requires : goal.with_spots-requires
with_spots-requires c =
    let left = are-lent (goal.at.with_spots-requires c).In_ok-shown in
    record {
      proper = left.proper;
      few = left.few;
      places_cut = c.in_ok-places.ensures.cut;
      lists_are = left.lists_are;
      count = left.count;
    }

pub returns : goal.returns
returns c =
    let left = are-lent (goal.at.returns c).In_ok-shown in
    IfOk-weaker c.with_spots.result _ _ (λ w is. is ∙ left.narrowed_is) c.with_spots.ensures
