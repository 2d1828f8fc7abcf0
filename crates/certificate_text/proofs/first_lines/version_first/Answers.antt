use Rattle.std.proofs.Common.{◌≢◌}
use Rattle.specification.specs.Lines.{Line}
use Rattle.specification.specs.CertificateText.{version_line}
use Rattle.specification.specs.Versions.{Version}
use Rattle.certificate_text.specs.declared.fault.CertCause.TheVariants as cause
use Rattle.certificate_text.proofs.OutlineFaults.{unread-line}
use Rattle.certificate_text.proofs.OutlineTexts.{line-is}
use Rattle.certificate_text.proofs.first_lines.version_first.Goals as goal

abbrev unread : Line → Type 0
unread line = (version : Version) → line ≢ version_line version

pub returns-in-Some-clause-ok : goal.returns-in-Some-clause-ok
returns-in-Some-clause-ok c = line-is _ _ _ _ c.in_ok-line.ensures.ok.1 c.in-Some.ensures

pub returns-in-None-clause-cause : goal.returns-in-None-clause-cause
returns-in-None-clause-cause c =
    unread-line cause.Header unread _ _ _ c.in_ok-line.ensures.ok c.in-None.ensures
