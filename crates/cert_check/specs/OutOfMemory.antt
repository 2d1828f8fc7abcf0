-- Where a check takes memory.
use Rattle.std.specs.Prelude.{ℕ, ◌⊎◌, List}
use Rattle.events.specs.History.{History}
use Rattle.specification.specs.TraceText.{Spells}
use Rattle.specification.specs.Versions.{Version}
use Rattle.specification.specs.CertificateText.{Certificate, SpellsCertificate}
use Rattle.trace_text.specs.Place.{TakesMemoryAt}

-- the certificate's text spells one, which is judged
abbrev pub CertTakesMemory : List ℕ → Type 0
CertTakesMemory cert = (version : Version) × (c : Certificate) × SpellsCertificate cert version c

-- a line of the trace takes memory; or the trace spells a recording, and the certificate's text a certificate
abbrev pub TakesMemory : List ℕ → List ℕ → Type 0
TakesMemory trace cert =
    ((line : ℕ) × TakesMemoryAt trace line) ⊎ (((h : History) × Spells trace h) × CertTakesMemory cert)
