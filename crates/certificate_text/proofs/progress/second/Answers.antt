use Rattle.std.proofs.Common.{◌∷◌, [], sym, ap}
use Rattle.specification.specs.Lines.{Line}
use Rattle.specification.specs.CertificateText.{version_line}
use Rattle.certificate_text.specs.CertificateOf.{version_in}
use Rattle.certificate_text.proofs.KindLines.{kind-spells}
use Rattle.certificate_text.proofs.GoingOn.{no-kind}
use Rattle.std.proofs.Common.{refl}
use Rattle.certificate_text.proofs.progress.second.Goals as goal

pub returns-in-Ok-clause-ok : goal.returns-in-Ok-clause-ok
returns-in-Ok-clause-ok c =
    let p = kind-spells c.args.line.now c.in-Ok.kind c.in-Ok.ensures in
    (p.0, ap (λ (l : Line). version_line (version_in c.args.version) ∷ l ∷ []) (sym p.1))

pub returns-in-Err-clause-fault : goal.returns-in-Err-clause-fault
returns-in-Err-clause-fault c = (refl, no-kind (version_in c.args.version) c.args.line.now c.in-Err.ensures)
