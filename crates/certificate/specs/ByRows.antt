-- Certificates row by row: what a verdict gives beside the rows, and a text that grows by their lines.
use Rattle.std.specs.Prelude.{◌≡◌, ℕ, ◌+◌, ◌*◌, ◌<◌, ◌≤◌, List, [], ◌++◌, IfOk, Result, Vec, length, map}
use Rattle.std.specs.Prelude.{flat_map, take, drop, slice_index_or}
use Rattle.std.specs.Global.{Global}
use Rattle.events.specs.Names.{NameBytes}
use Rattle.events.specs.History.{History}
use Rattle.events.specs.declared.memory.Memory.{Memory}
use Rattle.specification.specs.CertificateText.{Certificate, names_fault, gives_order, gives_cycle}
use Rattle.specification.specs.CertificateText.{certificate_text, row_line}
use Rattle.specification.specs.ExactRows.{AreExactRows, IsCertificateOf}
use Rattle.specification.specs.LayerRule.{Row}
use Rattle.specification.specs.Lines.{text_of}
use Rattle.specification.specs.Responses.{Responses}
use Rattle.specification.specs.Verdict.{Verdict, faulty, accepted, refused}
use Rattle.specification.specs.Versions.{two}

-- the text, in version two, of the certificate of a verdict on a recording
abbrev pub IsTextOfCertificate : History → Verdict → List ℕ → Type 0
IsTextOfCertificate h v text = (c : Certificate) × IsCertificateOf two h v c × (text ≡ certificate_text two c)

-- what a verdict says as a certificate, with these rows where it is a refusal
abbrev pub certificate_with : List Row → Verdict → Certificate
certificate_with rows (faulty fault) = names_fault fault
certificate_with rows (accepted order) = gives_order order
certificate_with rows (refused k steps) = gives_cycle k steps rows

-- a refusal with this conflict number, of which a certificate has rows
abbrev pub HasRows : Verdict → ℕ → Type 0
HasRows (faulty fault) k = ⊥
HasRows (accepted order) k = ⊥
HasRows (refused n steps) k = (n ≡ k) × (3 ≤ k)

-- a verdict of which a certificate has none
abbrev pub HasNoRows : Verdict → Type 0
HasNoRows (faulty fault) = Unit {0}
HasNoRows (accepted order) = Unit {0}
HasNoRows (refused n steps) = n < 3

-- the text grew by the lines of the exact rows from these sources
abbrev pub AppendsRows : Responses → ℕ → List NameBytes → List ℕ → List ℕ → Type 0
AppendsRows v k sources old new =
    (rows : List Row) × AreExactRows two v k sources rows × (new ≡ old ++ text_of (map row_line rows))

-- each of these texts that was made is of the lines of the exact rows from so many sources; the first of
-- these is told by the text's place among all, and that by its slot
abbrev pub ArePieces : Responses → ℕ → ℕ → ℕ → (ℕ → ℕ) → List (Result (Vec ℕ Global) Memory) → Type 0
ArePieces v k count first place pieces =
    (i : ℕ) (d : Result (Vec ℕ Global) Memory) → i < length pieces
    → IfOk (slice_index_or pieces i d)
    (λ piece. AppendsRows v k (take count (drop (first + count * place i) v.elements)) [] piece.items)

-- texts one after the other
abbrev pub joined : List (Vec ℕ Global) → List ℕ
joined texts = flat_map (λ (text : Vec ℕ Global). text.items) texts
