use Rattle.std.proofs.Common.{[], ◌∷◌, ◌∙◌}
use Rattle.std.proofs.lemmas.Result.{IfErr-weaker, IfOk-weaker}
use Rattle.specification.specs.CertificateText.{version_line}
use Rattle.certificate_text.specs.Progress.{kind_line}
use Rattle.certificate_text.proofs.OutlineFaults.{kind-fault, fault-behind, one-text}
use Rattle.certificate_text.proofs.outline.behind_version.Goals as goal

pub returns-in-Ok-clause-ok : goal.returns-in-Ok-clause-ok
returns-in-Ok-clause-ok c =
    let cut = one-text c.args.text.now (kind_line c.in-Ok.kind) c.in-Ok.rest.now c.in-Ok.ensures.ok.1 in
    IfOk-weaker c.behind_kind.result _ _ (λ outline made. (made.0, made.1, cut ∙ made.2, made.3))
    c.behind_kind.ensures.ok

pub returns-in-Ok-clause-fault : goal.returns-in-Ok-clause-fault
returns-in-Ok-clause-fault c =
    let cut = one-text c.args.text.now (kind_line c.in-Ok.kind) c.in-Ok.rest.now c.in-Ok.ensures.ok.1 in
    IfErr-weaker c.behind_kind.result _ _
    (λ fault behind version. fault-behind (version_line version ∷ [])
    (kind_line c.in-Ok.kind ∷ []) c.args.text.now c.in-Ok.rest.now fault.line fault.cause cut
    (behind version)) c.behind_kind.ensures.fault

pub returns-in-Err-clause-fault : goal.returns-in-Err-clause-fault
returns-in-Err-clause-fault c =
    λ version. kind-fault version c.args.text.now c.in-Err.cause c.in-Err.ensures.cause
