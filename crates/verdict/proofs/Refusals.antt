-- Where no order follows every response there is a conflict number, and it is the length of a shortest cycle.
-- A refusal of responses that cover those of a recording is its verdict.
use Rattle.std.proofs.Common.{ℕ, inl, inr, Some}
use Rattle.events.specs.History.{History}
use Rattle.specification.specs.Responses.{Responses, responses_of, AreProper}
use Rattle.specification.specs.Faults.{IsSound}
use Rattle.specification.specs.Verdict.{refused, IsVerdict}
use Rattle.specification.specs.Orders.{HasNoOrder}
use Rattle.specification.specs.Conflict.{HasConflictNumber, HasNoConflict}
use Rattle.specification.specs.Search.{IsShortestLength}
use Rattle.specification.proofs.ConflictNumber.{conflict_number_is_shortest_cycle}
use Rattle.specification.proofs.LeastOrder.{least_order_or_cycle}
use Rattle.order_graph.specs.Covers.{IsCoveredBy}
use Rattle.order_graph.proofs.Covers.{covered-least_steps, covered-number}
use Rattle.level_search.specs.Conflicts.{IsLeastConflict}
use Rattle.level_search.specs.declared.conflict.Conflict.{Conflict}

pub shortest-of_number : (v : Responses) (k : ℕ) → AreProper v → HasConflictNumber v k → IsShortestLength v k
shortest-of_number v k proper number = ((conflict_number_is_shortest_cycle v proper).0 k).0 number

pub some_conflict : (v : Responses) → AreProper v → HasNoOrder v → HasNoConflict v → ⊥
some_conflict v proper none peace =
    elim (least_order_or_cycle v proper) [
      | inl p ↦ none p.0 p.1.follows
      | inr q ↦ let cycle = q.2.0 in (conflict_number_is_shortest_cycle v proper).1.0 peace cycle.0 cycle.1
    ]

pub refusal-covers : (h : History) (w : Responses) → IsSound h → AreProper (responses_of h) → AreProper w
    → IsCoveredBy (responses_of h) w
    → (found : Conflict) → IsLeastConflict w (Some found) → IsVerdict h (refused found.k found.steps)
refusal-covers h w sound whole part cover found is = (
  sound,
  covered-number (responses_of h) w cover whole part found.k is.0,
  covered-least_steps (responses_of h) w cover found.steps is.1,
  is.2,
)
