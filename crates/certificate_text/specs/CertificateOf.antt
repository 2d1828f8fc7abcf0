-- The public certificates, versions and causes as the definitions' ones.
use Rattle.std.specs.Prelude.{Option, Some, None}
use Rattle.specification.specs.Faults as fault
use Rattle.specification.specs.CertificateText as format
use Rattle.specification.specs.Versions as versions
use Rattle.format_words.specs.declared.stop.Stop.{Stop}
use Rattle.format_words.specs.declared.stop.Stop.TheVariants as stop
use Rattle.certificate_text.specs.declared.certificate.Certificate.{Certificate}
use Rattle.certificate_text.specs.declared.certificate.Certificate.TheVariants.{Doubled, Contents, Position}
use Rattle.certificate_text.specs.declared.certificate.Certificate.TheVariants.{Accepted, Refused}
use Rattle.certificate_text.specs.declared.version.Version.{Version}
use Rattle.certificate_text.specs.declared.version.Version.TheVariants as version
use Rattle.certificate_text.specs.declared.fault.CertCause.{CertCause}
use Rattle.certificate_text.specs.declared.fault.CertCause.TheVariants as cause

abbrev pub certificate_of : Certificate → format.Certificate
certificate_of (Doubled first again) = format.names_fault (fault.doubled first again)
certificate_of (Contents at) = format.names_fault (fault.contents at)
certificate_of (Position at) = format.names_fault (fault.position at)
certificate_of (Accepted order) = format.gives_order order
certificate_of (Refused k steps layers) = format.gives_cycle k steps layers

abbrev pub version_in : Version → versions.Version
version_in version.One = versions.one
version_in version.Two = versions.two

-- out of memory is no fault of the text
abbrev pub cause_of : CertCause → Option format.CertCause
cause_of cause.Header = Some format.header
cause_of cause.Kind = Some format.kind
cause_of cause.Shape = Some format.shape
cause_of cause.Cut = Some format.cut
cause_of cause.Memory = None

-- why a line's reading stopped, as a cause; unsaid is that of a line which says no such thing
abbrev pub cause_of_stop : CertCause → Stop → CertCause
cause_of_stop unsaid stop.Shape = unsaid
cause_of_stop unsaid stop.Memory = cause.Memory
