-- The certificate gives an order or a cycle, or it names a fault.
use Rattle.std.proofs.Common.{sym, subst}
use Rattle.specification.specs.CertificateText.{Certificate, IsSpellable, gives_order, gives_cycle}
use Rattle.certificate_text.specs.CertificateOf.{version_in}
use Rattle.certificate_text.specs.Outlines.{Outlines}
use Rattle.certificate_text.specs.declared.outline.Outline.{Outline}
use Rattle.certificate_text.specs.declared.outline.Outline.TheVariants.{Accepted, Refused}
use Rattle.cert_check.specs.Judged.{IsJudged}
use Rattle.cert_check.proofs.FaultReasons.{no_fault, names_some}
use Rattle.std.proofs.lemmas.Result.{IfOk-weaker}
use Rattle.cert_check.proofs.judging.judge_sound.Goals as goal

pub returns-in-Accepted : goal.returns-in-Accepted
returns-in-Accepted c =
    IfOk-weaker c.judge_order.result _ _ (λ a judged d spellable outlines.
    let o : Outlines (Accepted c.in-Accepted.names) d =
    subst (λ (o : Outline). Outlines o d) c.in-Accepted.is outlines in
    let each : IsSpellable (gives_order o.0) = subst IsSpellable o.1 spellable in
    subst (λ (z : Certificate). IsJudged (version_in c.args.version) c.args.recording.now z a) (sym o.1)
    (judged (version_in c.args.version) o.0 each o.2)) c.judge_order.ensures

pub returns-in-Refused : goal.returns-in-Refused
returns-in-Refused c =
    IfOk-weaker c.judge_cycle.result _ _ (λ a judged d spellable outlines.
    let o : Outlines (Refused c.in-Refused.k c.in-Refused.steps c.in-Refused.rows) d =
    subst (λ (o : Outline). Outlines o d) c.in-Refused.is outlines in
    let good : IsSpellable (gives_cycle c.in-Refused.k o.0 o.1) = subst IsSpellable o.2 spellable in
    subst (λ (z : Certificate). IsJudged (version_in c.args.version) c.args.recording.now z a) (sym o.2)
    (judged o.0 o.1 good o.3 o.4)) c.judge_cycle.ensures

pub returns-in_default : goal.returns-in_default
returns-in_default c = λ d spellable outlines.
    let f = names_some c.args.outline.now d outlines c.in_default.not-Accepted c.in_default.not-Refused in
    no_fault c.args.recording.now d f.0 c.requires.sound f.1
