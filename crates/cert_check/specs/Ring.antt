-- Places round a ring.
use Rattle.std.specs.Prelude.{ℕ, ◌+◌, ◌==◌, if◌then◌else◌}

-- the place after a place: after the last the first
abbrev pub next_place : ℕ → ℕ → ℕ
next_place count i = (if i + 1 == count then 0 else i + 1)
