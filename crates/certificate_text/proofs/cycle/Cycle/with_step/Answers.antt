use Rattle.std.proofs.Common.{◌≡◌, List, [], ◌∷◌, ◌++◌, refl, sym, subst}
use Rattle.specification.specs.Conflict.{Step}
use Rattle.specification.specs.CertificateText.{certificate_lines, gives_cycle}
use Rattle.certificate_text.specs.Progress.{IsPartOfCycle}
use Rattle.certificate_text.specs.CertificateOf.{version_in}
use Rattle.certificate_text.proofs.StepLines.{step-spells}
use Rattle.certificate_text.proofs.GoingOn.{no-step, step-more}
use Rattle.certificate_text.proofs.TakingLines.{step-takes}
use Rattle.certificate_text.proofs.cycle.Cycle.with_step.Goals as goal

pub returns-in-Ok-push-clause-ok : goal.returns-in-Ok-push-clause-ok
returns-in-Ok-push-clause-ok c =
    let cycle = c.args.self in
    let line = c.args.line.now in
    let p = step-spells line c.in-Ok.step c.in-Ok.ensures in
    subst (λ (steps : List Step). IsPartOfCycle cycle.k steps cycle.rows.items
    × (certificate_lines (version_in cycle.version) (gives_cycle cycle.k steps cycle.rows.items)
    ≡ certificate_lines (version_in cycle.version)
    (gives_cycle cycle.k cycle.steps.items cycle.rows.items) ++ line ∷ []))
    (sym c.in-Ok-push.ensures.items)
    (step-more (version_in cycle.version) cycle.k cycle.steps.items cycle.rows.items c.in-Ok.step line
    c.requires.right c.requires.more p.0 p.1)

pub returns-in-Err-clause-fault : goal.returns-in-Err-clause-fault
returns-in-Err-clause-fault c =
    let cycle = c.args.self in (
      refl,
      no-step (version_in cycle.version) cycle.k cycle.steps.items cycle.rows.items c.args.line.now
          c.requires.right c.requires.more c.in-Err.ensures,
    )

pub returns-in-Err-push-clause-memory : goal.returns-in-Err-push-clause-memory
returns-in-Err-push-clause-memory c =
    let cycle = c.args.self in
    λ _. step-takes (version_in cycle.version) cycle.k cycle.steps.items cycle.rows.items c.in-Ok.step
    c.args.line.now c.requires.right c.requires.more c.in-Ok.ensures
