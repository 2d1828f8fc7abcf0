-- Which of several faults is answered: out of memory before a thread that could not be started, and that
-- before any other.
use Rattle.std.specs.Prelude.{ℕ, ◌<◌, nat_lt, cond, Option, Some, None, List, fold}
use Rattle.rehearsal.specs.declared.fault.RehearsalFault.{RehearsalFault}
use Rattle.rehearsal.specs.declared.fault.RehearsalFault.TheVariants.{Workers, Thread, Stalled, Memory}

abbrev pub rank : RehearsalFault → ℕ
rank Workers = 0
rank Thread = 1
rank Stalled = 0
rank Memory = 2

-- of two; of those that rank alike the first
abbrev pub foremost_of : Option RehearsalFault → Option RehearsalFault → Option RehearsalFault
foremost_of None b = b
foremost_of (Some a) None = Some a
foremost_of (Some a) (Some b) = cond (nat_lt (rank a) (rank b)) (Some b) (Some a)

-- of all
abbrev pub foremost_of_all : List (Option RehearsalFault) → Option RehearsalFault
foremost_of_all faults = fold foremost_of None faults
