-- The certificate names the first fault, or is wrong about it.
use Rattle.std.proofs.Common.{refl, sym, ap, subst, ◌∙◌, ◌≡◌}
use Rattle.specification.specs.CertificateText.{names_fault}
use Rattle.specification.specs.ValidCertificate.{IsValid}
use Rattle.contents_check.specs.FaultOf.{fault_of}
use Rattle.cert_check.specs.AnswerOf.{kind_of}
use Rattle.cert_check.proofs.FaultReasons.{wrong_fault, named_is}
use Rattle.std.proofs.lemmas.Bool.{false≢true}
use Rattle.cert_check.proofs.faults.judge_fault.Goals as goal

pub returns-then-names : goal.returns-then-names
returns-then-names c = λ d outlines version h first.
    let same : d ≡ names_fault (fault_of c.args.fault.now) =
    (named_is c.args.outline.now d (fault_of c.args.fault.now) outlines).0 (c.if-names.ensures.0 refl) in
    (subst (IsValid version h) (sym same) first, ap kind_of same ∙ sym c.kind.ensures)

pub returns-else-names : goal.returns-else-names
returns-else-names c = λ d outlines version h first.
    wrong_fault h d (fault_of c.args.fault.now) first
    (λ e. false≢true
    (c.if-names.ensures.1 ((named_is c.args.outline.now d (fault_of c.args.fault.now) outlines).1 e)))
