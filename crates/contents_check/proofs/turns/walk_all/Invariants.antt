use Rattle.std.proofs.Common.{take}
use Rattle.contents_check.specs.Covering.{IsWalked}
use Rattle.contents_check.specs.Known.{element_names}
use Rattle.contents_check.specs.Turns.{AreOnTheWay}
use Rattle.contents_check.specs.declared.walk.Walked.TheVariants.{Right}
use Rattle.contents_check.proofs.turns.walk_all.Given as goal

abbrev pub invariant-loop-k : goal.invariant-loop-k
invariant-loop-k l = record {
  on_the_way : AreOnTheWay l.recording l.sight l.elements l.replicas l.ways.items;
  walked : IsWalked l.recording (element_names l.elements) (take l.k l.replicas) (Right l.covering);
}
