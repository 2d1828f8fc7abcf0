-- How far a certificate's text is read: the right lines so far.
use Rattle.std.specs.Prelude.{◌≡◌, ℕ, ◌<◌, ◌≤◌, ◌^◌, List, [], ◌∷◌, ◌++◌, length, All, decimal, codes}
use Rattle.specification.specs.Conflict.{Step}
use Rattle.specification.specs.LayerRule.{Row}
use Rattle.specification.specs.Lines.{Line, operation_text}
use Rattle.specification.specs.CertificateText as format
use Rattle.specification.specs.CertificateText.{version_line, certificate_lines, IsOperationName, IsStep}
use Rattle.specification.specs.CertificateText.{IsRow, IsSpellable, BeginsCertificate, IsWholeCertificate}
use Rattle.specification.specs.CertificateText.{cause_behind}
use Rattle.events.specs.Names.{IsName}
use Rattle.certificate_text.specs.CertificateOf.{certificate_of, version_in}
use Rattle.certificate_text.specs.declared.certificate.Certificate.{Certificate}
use Rattle.certificate_text.specs.declared.kind.Kind.{Kind}
use Rattle.certificate_text.specs.declared.kind.Kind.TheVariants as kind
use Rattle.certificate_text.specs.declared.cycle.Cycle.{Cycle}
use Rattle.certificate_text.specs.declared.progress.Progress.{Progress}
use Rattle.certificate_text.specs.declared.progress.Progress.TheVariants as progress
use Rattle.certificate_text.specs.declared.version.Version.{Version}

abbrev pub kind_line : Kind → Line
kind_line (kind.Doubled first again) = codes "doubled " ++ operation_text first ++ 32 ∷ operation_text again
kind_line (kind.Contents at) = codes "contents " ++ operation_text at
kind_line (kind.Position at) = codes "position " ++ operation_text at
kind_line kind.Accepted = codes "accepted"
kind_line (kind.Refused k) = codes "refused " ++ decimal k

-- a line can spell it
abbrev pub IsKind : Kind → Type 0
IsKind (kind.Doubled first again) = IsOperationName first × IsOperationName again
IsKind (kind.Contents at) = IsOperationName at
IsKind (kind.Position at) = IsOperationName at
IsKind kind.Accepted = Unit {0}
IsKind (kind.Refused k) = (2 ≤ k) × (k < 2 ^ 32)

-- a cycle of which some last lines may be missing
pub record IsPartOfCycle (k : ℕ) (steps : List Step) (rows : List Row) : Type 0 where
  pub low : 2 ≤ k
  pub high : k < 2 ^ 32
  pub few : length steps ≤ k
  pub each_step : All IsStep steps
  pub short : k ≡ 2 → rows ≡ []
  pub early : length steps < k → rows ≡ []
  pub each_row : All (IsRow k) rows

abbrev pub IsRightCycle : Cycle → Type 0
IsRightCycle c = IsPartOfCycle c.k c.steps.items c.rows.items

abbrev pub cycle_lines : Cycle → List Line
cycle_lines c = certificate_lines (version_in c.version) (format.gives_cycle c.k c.steps.items c.rows.items)

-- the lines so far
abbrev pub good : Progress → List Line
good progress.Start = []
good (progress.Headed version) = version_line (version_in version) ∷ []
good (progress.Kind version k) = version_line (version_in version) ∷ kind_line k ∷ []
good (progress.Ordered version order) = certificate_lines (version_in version) (format.gives_order order)
good (progress.Cycle c) = cycle_lines c

-- they are right
abbrev pub IsRight : Progress → Type 0
IsRight progress.Start = Unit {0}
IsRight (progress.Headed version) = Unit {0}
IsRight (progress.Kind version k) = IsKind k
IsRight (progress.Ordered version order) = All IsName order
IsRight (progress.Cycle c) = IsRightCycle c

-- after these lines, this line goes on no spelling, for this cause
abbrev pub IsWrongBehind : List Line → Line → format.CertCause → Type 0
IsWrongBehind lines line cause = (cause ≡ cause_behind lines) × (¬ BeginsCertificate (lines ++ line ∷ []))

-- after these lines another must stand
abbrev pub LacksMore : List Line → format.CertCause → Type 0
LacksMore lines cause = (cause ≡ cause_behind lines) × (¬ IsWholeCertificate lines)

-- these lines are the spelling of this certificate in this version
abbrev pub AreSpelling : List Line → Version × Certificate → Type 0
AreSpelling lines r =
    IsSpellable (certificate_of r.1) × (lines ≡ certificate_lines (version_in r.0) (certificate_of r.1))
