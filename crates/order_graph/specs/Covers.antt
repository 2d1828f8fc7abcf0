-- Responses that cover others: what these show, they show, by the same operation or one that comes before.
use Rattle.std.specs.Prelude.{◌≡◌, ◌⊎◌, List, map, Contains}
use Rattle.events.specs.Operation.{Operation, ComesBefore}
use Rattle.events.specs.History.{History}
use Rattle.events.specs.Operations.{response}
use Rattle.specification.specs.Elements.{elements}
use Rattle.specification.specs.Orders.{IsSubsequence}
use Rattle.specification.specs.Responses.{Responses, Returned}

-- w has the same elements and some of the responses of v, and each response of v is a subsequence of one of w
-- that the same operation or one before it returned
pub record IsCoveredBy (v w : Responses) : Type 0 where
  pub elements : w.elements ≡ v.elements
  pub kept : (r : Returned) → Contains w.returned r → Contains v.returned r
  pub covered : (r : Returned) → Contains v.returned r
      → (s : Returned) × Contains w.returned s × ((s.by ≡ r.by) ⊎ ComesBefore s.by r.by)
      × IsSubsequence r.names s.names

-- the responses of these operations alone
abbrev pub responses_on : History → List Operation → Responses
responses_on h operations =
    record { elements = elements h; returned = map (λ o. record { by = o; names = response h o }) operations }
