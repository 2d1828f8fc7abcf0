use Rattle.std.proofs.Common.{take}
use Rattle.events.specs.History.{History}
use Rattle.specification.specs.Visibility.{SightTable}
use Rattle.contents_check.specs.Turns.{AreOnTheWay}
use Rattle.contents_check.proofs.turns.begin_all.Given as goal

abbrev pub invariant-loop-r : goal.invariant-loop-r
invariant-loop-r l =
    (h : History) (table : SightTable)
    → AreOnTheWay h table l.elements (take l.r-index l.replicas) l.ways.items
