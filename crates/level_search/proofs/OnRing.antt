-- What stands after an element of a shortest cycle and leads back in as many steps as are left has just this
-- distance to its first: fewer would make a shorter cycle.
use Rattle.std.proofs.Common.{◌≡◌, ℕ, suc, ◌+◌, ◌-◌, ◌<◌, ◌≤◌, List, subst, arith}
use Rattle.std.specs.Prelude.{◌↔◌}
use Rattle.list_search.specs.Graph.{Before}
use Rattle.list_search.specs.Rings.{IsDistanceTo, Reaches}
use Rattle.list_search.specs.Walks.{HasCycle, NoneShorter, Walk}
use Rattle.list_search.proofs.Firsts.{reaches_walk, walk_reaches}
use Rattle.list_search.proofs.RingWalks.{reaches_both}

-- there and back
round : (rows : List (List ℕ)) (z a y i n : ℕ) → Walk rows z i a → Before rows a y → Reaches rows z n y
    → HasCycle rows z (suc i + n)
round rows z a y i n there step back = (
  omega arith,
  walk_reaches rows z (suc i + n) z
      (reaches_both rows z y z (suc i) n (reaches_walk rows z (suc i) y (a, there, step)) back),
)

pub distance_on-ring : (rows : List (List ℕ)) (z k i a y d : ℕ) → NoneShorter rows z k → suc i < k
    → Walk rows z i a → Before rows a y → IsDistanceTo rows z k y d
    → (d ≡ k - suc i) ↔ Reaches rows z (k - suc i) y
distance_on-ring rows z k i a y d shortest inside there step is = (
  λ same. subst (λ n. Reaches rows z n y) same (is.walk (omega (arith, same))),
  λ back.
      (let low : d ≤ k - suc i = is.least (k - suc i) back in
      let far : k ≤ suc i + d =
      shortest (suc i + d) (round rows z a y i d there step (is.walk (omega arith))) in
      omega arith),
)
