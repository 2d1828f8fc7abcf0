-- The core of responses: the elements through which a cycle leads. Each leads to another and back, so they
-- are those of the strongly connected components with more than one element.
use Rattle.std.specs.Prelude.{ℕ, ◌<◌, List, length, All, AllPairs, Contains}
use Rattle.events.specs.Names.{NameBytes}
use Rattle.specification.specs.Responses.{Responses}
use Rattle.specification.specs.Conflict.{IsCycle}
use Rattle.specification.specs.Search.{IsCycleThrough}
use Rattle.order_graph.specs.Kept.{names_at}
use Rattle.order_graph.specs.Lists.{Stands}

-- some cycle leads through the element with this number
abbrev pub LiesOnCycle : Responses → ℕ → Type 0
LiesOnCycle v x = (cycle : List NameBytes) × IsCycleThrough v x cycle

-- these numbers rise, through each leads a cycle, and the elements of each cycle are among those with these
-- numbers
pub record IsCoreOf (v : Responses) (numbers : List ℕ) : Type 0 where
  pub rising : AllPairs (λ x y. x < y) numbers
  pub known : All (λ x. x < length v.elements) numbers
  pub on_cycles : All (LiesOnCycle v) numbers
  pub whole : (cycle : List NameBytes) → IsCycle v cycle
      → All (λ a. Contains (names_at v.elements numbers) a) cycle

-- x stands at some place of the lists
pub record IsPlaced (rows : List (List ℕ)) (x : ℕ) : Type 0 where
  pub list : ℕ
  pub place : ℕ
  pub here : Stands rows list place x
