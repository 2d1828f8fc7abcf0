use Rattle.std.proofs.Common.{◌≤◌, length}
use Rattle.contents_check.specs.Turns.{AreOnTheWay}
use Rattle.contents_check.proofs.turns.take_turns.Given as goal

abbrev pub invariant-loop-i : goal.invariant-loop-i
invariant-loop-i l = record {
  end : l.end ≤ length l.ways.items;
  on_the_way : AreOnTheWay l.recording l.sight l.elements l.replicas l.ways.items;
}
