use Rattle.std.proofs.Common.{List, ◌++◌, drop}
use Rattle.events.specs.Names.{NameBytes}
use Rattle.contents_check.specs.Shown.{OnlyNotes, ShowJust}
use Rattle.contents_check.proofs.standings.Standings.hide_from.Given as goal

abbrev pub invariant-loop-k : goal.invariant-loop-k
invariant-loop-k l = record {
  notes : OnlyNotes l.elements l.fn.self l.self;
  shown : (front : List NameBytes) → ShowJust l.elements l.fn.self.list.items (front ++ drop l.j l.last)
      → ShowJust l.elements l.self.list.items (front ++ drop l.k l.last);
}
