-- How the program ends: exit statuses, and its fault for that of a run.
use Rattle.std.specs.Prelude.{ℕ, List}
use Rattle.engines.specs.declared.status.RunFault.{RunFault}
use Rattle.engines.specs.declared.status.RunFault.TheVariants as run
use Rattle.finder_cli.specs.declared.fault.ProgramFault.{ProgramFault}
use Rattle.finder_cli.specs.declared.fault.ProgramFault.TheVariants as program

-- the exit status of a fault
abbrev pub number_of_fault : ProgramFault → ℕ
number_of_fault program.Usage = 2
number_of_fault (program.Read file) = 2
number_of_fault (program.Trace fault) = 2
number_of_fault program.Thread = 2
number_of_fault program.Stalled = 2
number_of_fault program.Write = 2
number_of_fault program.Memory = 3

-- the program's fault for a run's on this file
abbrev pub fault_of_run : List ℕ → RunFault → ProgramFault
fault_of_run file run.Workers = program.Usage
fault_of_run file run.Read = program.Read file
fault_of_run file (run.Trace fault) = program.Trace fault
fault_of_run file run.Thread = program.Thread
fault_of_run file run.Stalled = program.Stalled
fault_of_run file run.Write = program.Write
fault_of_run file run.Memory = program.Memory
