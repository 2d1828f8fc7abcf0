-- How a call from C ends.
use Rattle.std.specs.Prelude.{◌≡◌, ℕ, zero, suc, ◌<◌, ◌≤◌, ◌⊎◌, ◌++◌, List, drop, length}
use Rattle.command_line.specs.declared.task.Form.{Form}
use Rattle.command_line.specs.declared.task.Form.TheVariants.{Text, Json}
use Rattle.engines.specs.Certified.{IsCertificateOn, IsLineOn}
use Rattle.cert_check.specs.OutOfMemory as checker
use Rattle.engines.specs.OutOfMemory.{TakesMemory}
use Rattle.engines.specs.Runs.{IsLineFaultOf, IsReportOf, number_of_status}
use Rattle.engines.specs.declared.status.Status.{Status}
use Rattle.trace_text.specs.declared.cause.LineFault.{LineFault}
use Rattle.domepeeler.specs.declared.TheConstants.{NO_MEMORY, NO_RECORDING, SHORT}
use Rattle.domepeeler.specs.declared.DomepeelerEnd.{DomepeelerEnd}

-- text for 0, JSON for any other number
abbrev pub form_of : ℕ → Form
form_of zero = Text
form_of (suc n) = Json

-- the output stands at the front of the room, with its status, and what stands behind it is as it was; or it
-- has more bytes than the room, which is as it was
abbrev pub IsPut : List ℕ → ℕ → ℕ → List ℕ → List ℕ → DomepeelerEnd → Type 0
IsPut output status line old new end =
    (end.length ≡ length output) × (end.line ≡ line)
    × (((length output ≤ length old) × (end.status ≡ status) × (new ≡ output ++ drop (length output) old))
    ⊎ ((length old < length output) × (end.status ≡ SHORT) × (new ≡ old)))

-- the text has a faulty line, and this is the first
abbrev pub IsFaulty : List ℕ → List ℕ → List ℕ → DomepeelerEnd → Type 0
IsFaulty text old new end =
    (fault : LineFault) × (words : List ℕ) × IsLineFaultOf text fault
    × IsPut words NO_RECORDING fault.line old new end

-- memory ran out, where some is taken, and the room is as it was
abbrev pub HasNoMemory : List ℕ → List ℕ → List ℕ → DomepeelerEnd → Type 0
HasNoMemory text old new end =
    TakesMemory text × (end.status ≡ NO_MEMORY) × (end.line ≡ 0) × (end.length ≡ 0) × (new ≡ old)

-- the report of the verdict on the recording that the text spells
abbrev pub IsReportEnd : List ℕ → Form → List ℕ → List ℕ → DomepeelerEnd → Type 0
IsReportEnd text form old new end =
    ((report : List ℕ) × (status : Status) × IsReportOf text form report status
    × IsPut report (number_of_status status) 0 old new end)
    ⊎ (IsFaulty text old new end ⊎ HasNoMemory text old new end)

-- the certificate of the verdict on the recording that the text spells
abbrev pub IsCertificateEnd : List ℕ → List ℕ → List ℕ → DomepeelerEnd → Type 0
IsCertificateEnd text old new end =
    ((output : List ℕ) × (status : Status) × IsCertificateOn text output status
    × IsPut output (number_of_status status) 0 old new end)
    ⊎ (IsFaulty text old new end ⊎ HasNoMemory text old new end)

-- the line of the checker's answer on the two texts; or memory ran out, where some is taken for them
abbrev pub IsLineEnd : List ℕ → List ℕ → List ℕ → List ℕ → DomepeelerEnd → Type 0
IsLineEnd trace cert old new end =
    ((line : List ℕ) × (status : Status) × IsLineOn trace cert line status
    × IsPut line (number_of_status status) 0 old new end)
    ⊎ (checker.TakesMemory trace cert × (end.status ≡ NO_MEMORY) × (end.line ≡ 0) × (end.length ≡ 0)
    × (new ≡ old))
