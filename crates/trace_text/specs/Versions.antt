-- The version that the first line names, as the format has it, and whether it has views.
use Rattle.std.specs.Prelude.{Bool, true, false}
use Rattle.specification.specs.Versions as versions
use Rattle.trace_text.specs.declared.version.Version.{Version}
use Rattle.trace_text.specs.declared.version.Version.TheVariants as version

abbrev pub version_in : Version → versions.Version
version_in version.One = versions.one
version_in version.Two = versions.two

abbrev pub has_views : versions.Version → Bool
has_views versions.one = false
has_views versions.two = true
