-- The public verdicts as the definitions' verdicts.
use Rattle.specification.specs.Faults as fault
use Rattle.specification.specs.Verdict as spec
use Rattle.verdict.specs.declared.verdict.Verdict.{Verdict}
use Rattle.verdict.specs.declared.verdict.Verdict.TheVariants.{Doubled, Contents, Position, Accepted, Refused}

abbrev pub verdict_of : Verdict → spec.Verdict
verdict_of (Doubled first again) = spec.faulty (fault.doubled first again)
verdict_of (Contents at) = spec.faulty (fault.contents at)
verdict_of (Position at) = spec.faulty (fault.position at)
verdict_of (Accepted order) = spec.accepted order
verdict_of (Refused k steps) = spec.refused k steps

-- no order follows every response
abbrev pub IsRefusal : spec.Verdict → Type 0
IsRefusal (spec.faulty fault) = ⊥
IsRefusal (spec.accepted order) = ⊥
IsRefusal (spec.refused k steps) = Unit {0}
