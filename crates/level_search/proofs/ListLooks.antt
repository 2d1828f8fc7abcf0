-- Searches over the lists: none finds a cycle under a bound of two, and how much they look at.
use Rattle.std.proofs.Common.{◌≡◌, ℕ, zero, suc, ◌+◌, ◌*◌, ◌<◌, ◌≤◌, min, Option, Some, None, length, subst, arith}
use Rattle.std.specs.Prelude.{IfNone}
use Rattle.specification.specs.Responses.{Responses, AreProper, place_count}
use Rattle.order_graph.specs.Lists.{lists_of}
use Rattle.order_graph.proofs.Shown.{lists-total}
use Rattle.list_search.specs.Graph.{Before}
use Rattle.list_search.specs.ScratchView.{LooksWithin}
use Rattle.list_search.specs.Walks.{NoneShorter}
use Rattle.level_search.specs.LayerSizes.{counted}
use Rattle.level_search.specs.Looks.{HasLookedInLists, IsListCount}
use Rattle.level_search.proofs.Counts.{list-most}
use Rattle.level_search.proofs.LayerSizes.{counted-most}
use Rattle.level_search.proofs.OnCycles.{apart-in}

-- no cycle has one element alone
pub none-below-two : (v : Responses) → AreProper v → (s bound : ℕ) → bound ≤ 2
    → NoneShorter (lists_of v) s bound
none-below-two v proper s bound low zero cycle = absurd (let one = cycle.0 in omega arith)
none-below-two v proper s bound low (suc zero) cycle =
    absurd (apart-in v proper s (subst (λ c. Before (lists_of v) c s) cycle.1.1 cycle.1.2))
none-below-two v proper s bound low (suc (suc n)) cycle = omega arith

-- a count after so many looks more
pub counted-from : (k old : ℕ) → old ≤ 18446744073709551615
    → min (old + k) 18446744073709551615 ≡ counted k old
counted-from zero old small = omega arith
counted-from (suc k) old small = let h = counted-from k old small in omega (arith, h)

-- what a search over the lists promises of its looks
pub list-count : (v : Responses) (low : ℕ) (answer : Option ℕ) (looked : ℕ) → LooksWithin v looked answer
    → IfNone answer (1 < low → 0 < looked) → IsListCount (length v.elements) (lists_of v) low answer looked
list-count v low (Some m) looked within some =
    ((let most = within.0 in omega (arith, most, lists-total v)), within.1)
list-count v low None looked within some = (omega (arith, within, lists-total v), λ lt. some (omega arith))

pub looked-most : (v : Responses) (low : ℕ) (answer : Option ℕ) (old new : ℕ)
    → HasLookedInLists (length v.elements) (lists_of v) low answer old new
    → new ≤ old + 2 * (place_count v + length v.elements)
looked-most v low answer old new is =
    let most = list-most (length v.elements) (lists_of v) low answer is.0 is.1 in
    let new_is = is.2 in
    omega (arith, most, lists-total v, counted-most is.0 old, new_is)
