-- What the verdict says of the specifications, and what it proves of itself, follows from its being the
-- verdict.
use Rattle.specification.proofs.VerdictsDecide.{verdicts_decide}
use Rattle.specification.proofs.VerdictsProveThemselves.{verdicts_prove_themselves}
use Rattle.verdict.specs.VerdictOf.{verdict_of}
use Rattle.verdict.proofs.judging.judge.Goals as goal

pub returns-clause-specifications : goal.returns-clause-specifications
returns-clause-specifications g c =
    verdicts_decide c.args.recording.now (verdict_of c.in_ok-found.found.verdict) c.replicas.ensures.legal
    c.in_ok-found.ensures.verdict

pub returns-clause-proof : goal.returns-clause-proof
returns-clause-proof g c =
    verdicts_prove_themselves c.args.recording.now (verdict_of c.in_ok-found.found.verdict)
    c.replicas.ensures.legal c.in_ok-found.ensures.verdict
