use Rattle.std.proofs.Common.{◌≡◌, true, ◌+◌, ◌-◌, ◌≤◌, drop, length, take}
use Rattle.specification.specs.Elements.{numbers_in}
use Rattle.specification.specs.Orders.{IsSubsequence}
use Rattle.contents_check.specs.Known.{element_names}
use Rattle.contents_check.specs.Shown.{joined, OnlyNotes, ShowJust}
use Rattle.contents_check.proofs.standings.Standings.show.Given as goal

-- the names of the one up to its place, and those of the other from its place on, are noted; the row has the
-- numbers of the first; and as long as no name was new, the one is a part of the other where what is left is
abbrev pub invariant-runs : goal.invariant-runs
invariant-runs l = record {
  notes : OnlyNotes l.elements l.fn.self l.self;
  shown : ShowJust l.elements l.self.list.items (joined l.w l.i l.last l.j);
  row : l.next.items ≡ numbers_in (element_names l.elements) (take l.i l.w);
  part : l.is_part ≡ true → IsSubsequence (drop l.i l.w) (drop l.j l.last) → IsSubsequence l.w l.last;
  within : l.i ≤ length l.w;
  other_within : l.j ≤ length l.last;
}

abbrev pub decreases-runs : goal.decreases-runs
decreases-runs l = length l.w - l.i + (length l.last - l.j)
