-- How a run ends whose rehearsal failed.
use Rattle.engines.specs.declared.status.RunFault.{RunFault}
use Rattle.engines.specs.declared.status.RunFault.TheVariants as run
use Rattle.rehearsal.specs.declared.fault.RehearsalFault.{RehearsalFault}
use Rattle.rehearsal.specs.declared.fault.RehearsalFault.TheVariants as rehearsal

-- the fault of a run for that of its rehearsal
abbrev pub fault_of_rehearsal : RehearsalFault → RunFault
fault_of_rehearsal rehearsal.Workers = run.Workers
fault_of_rehearsal rehearsal.Thread = run.Thread
fault_of_rehearsal rehearsal.Stalled = run.Stalled
fault_of_rehearsal rehearsal.Memory = run.Memory
