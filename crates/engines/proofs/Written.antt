-- What was written, as an output on the text that was read.
use Rattle.std.proofs.Common.{◌≡◌, ℕ, Bool, true, List, Option, Some, None, Result, Ok, Err, IfSome, IfOk}
use Rattle.std.proofs.Common.{IfErr, subst, sym}
use Rattle.std.specs.Io.KnownBytes.{Appends, Consumes, IsAtEnd}
use Rattle.std.specs.Result.{IsErrAnd}
use Rattle.std.proofs.lemmas.Result.{err_from_is_err_and}
use Rattle.std.proofs.KnownBytes.{Consumes-whole}
use Rattle.byte_streams.specs.Streams.{AppendsFront}
use Rattle.engines.specs.declared.status.Status.{Status}
use Rattle.engines.specs.declared.status.RunFault.{RunFault}
use Rattle.engines.specs.declared.status.RunFault.TheVariants.{Write}
use Rattle.command_line.specs.declared.task.Form.{Form}
use Rattle.events.specs.History.{History}
use Rattle.specification.specs.TraceText.{Spells}
use Rattle.engines.specs.Certified.{IsCertificateFor, IsCertificateOn}
use Rattle.engines.specs.Runs.{IsReportOf, IsReportOn}

-- what is so of the fault that a call met is so of the one that is handed on
pub handed-on : {A : Type 0} (R : RunFault → Type 0) {given : RunFault} (answer : Result A RunFault)
    → IsErrAnd answer (λ fault. fault ≡ given) → R given → IfErr answer R
handed-on R answer is so = let p = err_from_is_err_and answer is in rw (p.1, p.2) so

-- the bytes of the text, as they were read and as they were handed on
pub record WasRead (before after : Option (List ℕ)) (text read : List ℕ) : Type 0 where
  pub consumed : Consumes before after read
  pub ended : IsAtEnd after
  pub same : text ≡ read

-- an output on the text was written, where the text is known
pub written-on : (Q : List ℕ → List ℕ → Status → Type 0) (before old new : Option (List ℕ)) (bytes : List ℕ)
    (status : Status) (answer : Result Status RunFault)
    → IfSome before (λ t. Q t bytes status) → IfOk answer (λ s. (s ≡ status) × Appends old new bytes)
    → IfOk answer (λ s. IfSome before (λ t. (output : List ℕ) × Q t output s × Appends old new output))
written-on Q None old new bytes status (Ok s) of_text wrote = tt
written-on Q (Some t) old new bytes status (Ok s) of_text wrote =
    (bytes, subst (λ x. Q t bytes x) (sym wrote.0) of_text, wrote.1)
written-on Q before old new bytes status (Err fault) of_text wrote = tt

-- a prefix of one was written
pub front-on : (Q : List ℕ → List ℕ → Status → Type 0) (failed : Bool) (before old new : Option (List ℕ))
    (bytes : List ℕ) (status : Status) (answer : Result Status RunFault)
    → IfSome before (λ t. Q t bytes status)
    → IfErr answer (λ f. (f ≡ Write) × (failed ≡ true) × AppendsFront old new bytes)
    → IfErr answer (λ f. f ≡ Write → (failed ≡ true)
    × IfSome before (λ t. (output : List ℕ) × (s : Status) × Q t output s × AppendsFront old new output))
front-on Q failed None old new bytes status (Err fault) of_text wrote = λ _. (wrote.1, tt)
front-on Q failed (Some t) old new bytes status (Err fault) of_text wrote =
    λ _. (wrote.1, (bytes, status, of_text, wrote.2))
front-on Q failed before old new bytes status (Ok s) of_text wrote = tt

-- the report on the recording that a text spells is that on the text
pub report-on : (before : Option (List ℕ)) (h : History) (form : Form) (bytes : List ℕ) (status : Status)
    → IfSome before (λ t. Spells t h) → IsReportOn h form bytes status
    → IfSome before (λ t. IsReportOf t form bytes status)
report-on None h form bytes status spells made = tt
report-on (Some t) h form bytes status spells made = (h, made.0, spells, made.1, made.2, made.3)

-- and so is its certificate
pub certificate-on : (before : Option (List ℕ)) (h : History) (bytes : List ℕ) (status : Status)
    → IfSome before (λ t. Spells t h) → IsCertificateFor h bytes status
    → IfSome before (λ t. IsCertificateOn t bytes status)
certificate-on None h bytes status spells made = tt
certificate-on (Some t) h bytes status spells made =
    (h, made.0, made.1, spells, made.2, made.3, made.4, made.5)

-- what is so of each text of which this was read, and of this certificate's text, is so of both texts where
-- they are known
pub of-both : (Was : List ℕ → Type 0) (Q : List ℕ → List ℕ → List ℕ → Status → Type 0)
    (before before_2 after_2 : Option (List ℕ)) (text_2 read_2 bytes : List ℕ) (status : Status)
    → IfSome before Was → WasRead before_2 after_2 text_2 read_2
    → ((t : List ℕ) → Was t → Q t text_2 bytes status)
    → IfSome before (λ t. IfSome before_2 (λ c. Q t c bytes status))
of-both Was Q None before_2 after_2 text_2 read_2 bytes status was was_2 of_texts = tt
of-both Was Q (Some t) before_2 after_2 text_2 read_2 bytes status was was_2 of_texts =
    Consumes-whole before_2 after_2 read_2 (λ c. Q t c bytes status) was_2.consumed was_2.ended
    (subst (λ c. Q t c bytes status) was_2.same (of_texts t was))

-- an output on two texts was written
pub written-of-both : (Q : List ℕ → List ℕ → List ℕ → Status → Type 0)
    (before before_2 old new : Option (List ℕ)) (bytes : List ℕ) (status : Status)
    (answer : Result Status RunFault)
    → IfSome before (λ t. IfSome before_2 (λ c. Q t c bytes status))
    → IfOk answer (λ s. (s ≡ status) × Appends old new bytes)
    → IfOk answer
    (λ s. IfSome before
    (λ t. IfSome before_2 (λ c. (output : List ℕ) × Q t c output s × Appends old new output)))
written-of-both Q None before_2 old new bytes status (Ok s) of_texts wrote = tt
written-of-both Q (Some t) before_2 old new bytes status (Ok s) of_texts wrote =
    written-on (Q t) before_2 old new bytes status (Ok s) of_texts wrote
written-of-both Q before before_2 old new bytes status (Err fault) of_texts wrote = tt

-- a prefix of one was written
pub front-of-both : (Q : List ℕ → List ℕ → List ℕ → Status → Type 0) (failed : Bool)
    (before before_2 old new : Option (List ℕ)) (bytes : List ℕ) (status : Status)
    (answer : Result Status RunFault)
    → IfSome before (λ t. IfSome before_2 (λ c. Q t c bytes status))
    → IfErr answer (λ f. (f ≡ Write) × (failed ≡ true) × AppendsFront old new bytes)
    → IfErr answer (λ f. f ≡ Write
    → (failed ≡ true)
    × IfSome before (λ t. IfSome before_2 (λ c. (output : List ℕ) × (s : Status) × Q t c output s
    × AppendsFront old new output)))
front-of-both Q failed None before_2 old new bytes status (Err fault) of_texts wrote = λ _. (wrote.1, tt)
front-of-both Q failed (Some t) before_2 old new bytes status (Err fault) of_texts wrote =
    front-on (Q t) failed before_2 old new bytes status (Err fault) of_texts wrote
front-of-both Q failed before before_2 old new bytes status (Ok s) of_texts wrote = tt
