use Rattle.std.proofs.Common.{◌≡◌, ◌*◌, take}
use Rattle.std.specs.Prelude.{Some, Ok, slice_get}
use Rattle.contents_check.specs.Covering.{IsWalked}
use Rattle.contents_check.specs.Known.{element_names}
use Rattle.contents_check.specs.declared.fault.Fault.{Fault}
use Rattle.contents_check.specs.declared.walk.Walked.TheVariants.{Right, Wrong}
use Rattle.contents_check.proofs.first.joined.Given as goal

abbrev pub invariant-loop-piece : goal.invariant-loop-piece
invariant-loop-piece l =
    IsWalked l.recording (element_names l.elements) (take (l.piece-index * l.size) l.replicas)
    (Right l.covering)
    × ((fault : Fault) → slice_get l.pieces 0 ≡ Some (Ok (Wrong fault)) → l.piece-index ≡ 0)
