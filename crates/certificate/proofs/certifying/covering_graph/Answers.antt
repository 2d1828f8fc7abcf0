-- A sound recording has no fault.
use Rattle.std.proofs.Common.{subst}
use Rattle.specification.proofs.VerdictsUnique.{sound_or_fault}
use Rattle.contents_check.specs.Covering.{IsChecked}
use Rattle.contents_check.specs.FaultOf.{fault_of}
use Rattle.certificate.proofs.certifying.covering_graph.Goals as goal

pub unreachable-requires : goal.unreachable-requires
unreachable-requires c =
    let h = c.args.recording.now in
    sound_or_fault h (fault_of c.in-Faulty.field-0) c.requires
    (subst (IsChecked h) c.in-Faulty.is c.in_ok-numbered.ensures)
