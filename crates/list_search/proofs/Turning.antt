-- In lists that go the other way, walks do too: the distances from an element there are those to it here.
use Rattle.std.proofs.Common.{◌≡◌, ℕ, zero, suc, ◌-◌, ◌<◌, List, [], ◌∷◌, length, map, get_or, refl, sym, ◌∙◌}
use Rattle.std.proofs.Common.{ap, subst, arith}
use Rattle.std.specs.Prelude.{reverse}
use Rattle.std.proofs.lemmas.List.{get_or-reverse, length-reverse, reverse-reverse}
use Rattle.order_graph.specs.Lists.{row, Stands}
use Rattle.list_search.specs.Distances.{AreDistances}
use Rattle.list_search.specs.Graph.{Before}
use Rattle.list_search.specs.Rings.{AreDistancesTo, Reaches}
use Rattle.list_search.specs.Walks.{Walk}

row-turned : (rows : List (List ℕ)) (l : ℕ) → row (map reverse rows) l ≡ reverse (row rows l)
row-turned [] l = refl
row-turned (r ∷ rs) zero = refl
row-turned (r ∷ rs) (suc l) = row-turned rs l

twice-turned : (rows : List (List ℕ)) → map reverse (map reverse rows) ≡ rows
twice-turned [] = refl
twice-turned (r ∷ rs) = let here = reverse-reverse r in let rest = twice-turned rs in λ i. here i ∷ rest i

turned-within : (rows : List (List ℕ)) (l p x : ℕ) → Stands (map reverse rows) l p x → p < length (row rows l)
turned-within rows l p x stands =
    let same : length (row (map reverse rows) l) ≡ length (reverse (row rows l)) =
    ap (λ (r : List ℕ). length r) (row-turned rows l) in
    let within = stands.within in
    omega (arith, same, length-reverse (row rows l))

turned-stands : (rows : List (List ℕ)) (l p x : ℕ) → Stands (map reverse rows) l p x
    → Stands rows l (length (row rows l) - 1 - p) x
turned-stands rows l p x stands =
    let inside : p < length (row rows l) = turned-within rows l p x stands in
    record {
      within = omega arith;
      here = sym (get_or-reverse (row rows l) p 0 inside)
          ∙ ap (λ (r : List ℕ). get_or r p 0) (sym (row-turned rows l)) ∙ stands.here;
    }

before_turned-from : (rows : List (List ℕ)) (a b : ℕ) → Before (map reverse rows) a b → Before rows b a
before_turned-from rows a b before =
    let high = turned-within rows before.list before.later b before.second in
    let order = before.in_order in
    record {
      list = before.list;
      place = length (row rows before.list) - 1 - before.later;
      later = length (row rows before.list) - 1 - before.place;
      in_order = omega arith;
      first = turned-stands rows before.list before.later b before.second;
      second = turned-stands rows before.list before.place a before.first;
    }

before-turned : (rows : List (List ℕ)) (a b : ℕ) → Before rows b a → Before (map reverse rows) a b
before-turned rows a b before =
    before_turned-from (map reverse rows) b a
    (subst (λ (rs : List (List ℕ)). Before rs b a) (sym (twice-turned rows)) before)

walk_turned-from : (rows : List (List ℕ)) (s n x : ℕ) → Walk (map reverse rows) s n x → Reaches rows s n x
walk_turned-from rows s zero x here = here
walk_turned-from rows s (suc n) x walk =
    (walk.0, before_turned-from rows walk.0 x walk.2, walk_turned-from rows s n walk.0 walk.1)

walk-turned : (rows : List (List ℕ)) (s n x : ℕ) → Reaches rows s n x → Walk (map reverse rows) s n x
walk-turned rows s zero x here = here
walk-turned rows s (suc n) x walk =
    (walk.0, walk-turned rows s n walk.0 walk.2, before-turned rows walk.0 x walk.1)

pub distances_turned : (rows : List (List ℕ)) (s limit : ℕ) (depths : List ℕ)
    → AreDistances (map reverse rows) s limit depths → AreDistancesTo rows s limit depths
distances_turned rows s limit depths are x within =
    let is = are x within in
    record {
      within = is.within;
      walk = λ low. walk_turned-from rows s (get_or depths x 0) x (is.walk low);
      least = λ n walk. is.least n (walk-turned rows s n x walk);
    }
