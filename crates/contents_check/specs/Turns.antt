-- Replicas whose operations are judged in turns.
use Rattle.std.specs.Prelude.{◌≡◌, ◌⊎◌, ◌∷◌, [], ℕ, ◌+◌, ◌≤◌, Option, Some, None, List, All, map}
use Rattle.events.specs.History.{History}
use Rattle.events.specs.Operations.{count}
use Rattle.specification.specs.Visibility.{SightTable}
use Rattle.contents_check.specs.declared.elements.Elements.{Elements}
use Rattle.contents_check.specs.declared.fault.Fault.{Fault}
use Rattle.contents_check.specs.declared.turns.OnTheWay.{OnTheWay}
use Rattle.contents_check.specs.declared.walk.Walk.{Walk}
use Rattle.contents_check.specs.Covering.{IsFirstFaultAmong}
use Rattle.contents_check.specs.Replicas.{AreRightTo}
use Rattle.contents_check.specs.Walk.{IsWalkBefore}

-- the replica's first operations, so many, are right, and the walk stands behind them; or this is its fault
abbrev pub IsJudgedTo : History → SightTable → Elements → ℕ → ℕ → Option Fault → Walk → Type 0
IsJudgedTo h table elements r n None walk =
    (n ≤ count h r) × AreRightTo h r n × IsWalkBefore h table elements r (n + 1) walk
IsJudgedTo h table elements r n (Some fault) walk = IsFirstFaultAmong h (r ∷ []) fault

-- what is kept of the replica is so of its first operations, or its fault is found
abbrev pub IsOnTheWay : History → SightTable → Elements → OnTheWay → Type 0
IsOnTheWay h table elements way = IsJudgedTo h table elements way.replica way.judged way.fault way.walk

-- these replicas are on the way, in this order
pub record AreOnTheWay (h : History) (table : SightTable) (elements : Elements) (replicas : List ℕ)
    (ways : List OnTheWay) : Type 0 where
  pub replicas_are : map (λ way. way.replica) ways ≡ replicas
  pub each : All (IsOnTheWay h table elements) ways

-- one operation more is judged, unless there is none or the fault is found
abbrev pub GoesOn : History → OnTheWay → OnTheWay → Type 0
GoesOn h old new =
    new.fault ≡ None
    → (old.fault ≡ None) × ((new.judged ≡ old.judged + 1) ⊎ (count h new.replica ≤ new.judged))

-- all operations of the replica are judged, unless the fault is found
abbrev pub IsAtTheEnd : History → OnTheWay → Type 0
IsAtTheEnd h way = way.fault ≡ None → count h way.replica ≤ way.judged
