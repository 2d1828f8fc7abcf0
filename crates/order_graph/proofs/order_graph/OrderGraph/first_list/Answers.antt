-- The first spot of a after which b stands is in the least list that has a before b, since spots stand in
-- order of lists.
use Rattle.std.proofs.Common.{◌≡◌, ℕ, ◌<◌, inl, inr, Some, List, length, get_or, slice_get, subst, refl, sym}
use Rattle.std.proofs.Common.{ap, ◌∙◌, arith}
use Rattle.std.proofs.lemmas.Bool.{cases_eq, cases_lt}
use Rattle.std.proofs.lemmas.Option.{same_Some, slice_get_within}
use Rattle.order_graph.specs.Lists.{lists_of, row, BeforeIn, IsBehind}
use Rattle.order_graph.specs.Spots.{spots_of}
use Rattle.order_graph.specs.declared.spot.Spot.{Spot}
use Rattle.order_graph.proofs.AllSpots.{IsAmong, spots_complete, spots_sound}
use Rattle.order_graph.proofs.InOrder.{lists_in_order}
use Rattle.order_graph.proofs.order_graph.OrderGraph.first_list.Goals as goal

behind-spot : (rows : List (List ℕ)) (m a b : ℕ) (shows : BeforeIn rows m a b)
    (among : IsAmong (spots_of rows a) m shows.place)
    → IsBehind (row rows among.spot.list) among.spot.place b
behind-spot rows m a b shows among =
    let place : among.spot.place ≡ shows.place = among.place_is in
    let order : shows.place < shows.later = shows.in_order in
    let same : m ≡ among.spot.list = sym among.list_is in
    record {
      later = shows.later;
      in_order = omega arith;
      within = subst (λ l. shows.later < length (row rows l)) same shows.second.within;
      here = subst (λ l. get_or (row rows l) shows.later 0 ≡ b) same shows.second.here;
    }

pub returns-then-stands_behind : goal.returns-then-stands_behind
returns-then-stands_behind c =
    let rows : List (List ℕ) = lists_of c.args.self.now in
    let i : ℕ = c.loop-i.i in
    let a : ℕ = c.args.a in
    let b : ℕ = c.args.b in
    let s : Spot = c.in-Some.spot in
    let get : slice_get (spots_of rows a) i ≡ Some s = sym c.in-Some.ensures in
    let behind : IsBehind (row rows s.list) s.place b =
    subst (λ (r : List ℕ). IsBehind r s.place b) c.list.ensures.value
    (c.if-stands_behind.ensures.found refl) in
    record {
      shows = record {
        place = s.place;
        later = behind.later;
        in_order = behind.in_order;
        first = spots_sound rows a i s get;
        second = record { within = behind.within; here = behind.here };
      };
      least = λ m shows.
          let among = spots_complete rows a m shows.place shows.first in
          let named : among.spot.list ≡ m = among.list_is in
          elim (cases_lt among.at i) [
            | inl early ↦
                absurd (c.loop-i.invariant among.at among.spot early among.get
                (behind-spot rows m a b shows among))
            | inr late ↦ elim (cases_eq among.at i) [
              | inl same ↦
                  let one : Some s ≡ Some among.spot =
                  sym get ∙ subst (λ n. slice_get (spots_of rows a) n ≡ Some among.spot) same among.get in
                  let lists : s.list ≡ among.spot.list =
                  ap (λ (z : Spot). z.list) (same_Some s among.spot one) in
                  omega arith
              | inr other ↦
                  let order = lists_in_order 0 rows a i among.at s among.spot (omega arith) get among.get in
                  omega arith
            ]
          ];
    }

pub returns : goal.returns
returns c = λ l shows.
    let rows : List (List ℕ) = lists_of c.args.self.now in
    let among = spots_complete rows c.args.a l shows.place shows.first in
    let within : among.at < length (spots_of rows c.args.a) =
    slice_get_within (spots_of rows c.args.a) among.at among.spot among.get in
    c.loop-i.invariant among.at among.spot (omega (arith, within, c.loop-i-test.false, c.spots-i-end.ensures))
    among.get (behind-spot rows l c.args.a c.args.b shows among)
