-- The first fault of a text, from what its right lines are and what follows them.
use Rattle.std.proofs.Common.{◌≡◌, ℕ, ◌+◌, ◌≤◌, List, [], ◌∷◌, ◌++◌, length, ◌∙◌, Option, None, IfSome}
use Rattle.std.proofs.Common.{◌⊎◌, inl, inr, arith}
use Rattle.std.proofs.lemmas.List.{append-nil}
use Rattle.std.proofs.lemmas.Option.{IfSome_then}
use Rattle.specification.specs.Lines.{Line, text_of, IsOneLine}
use Rattle.specification.specs.CertificateText as format
use Rattle.specification.specs.CertificateText.{BeginsCertificate, HasWrongLine, LacksCertificateLine}
use Rattle.specification.specs.CertificateText.{IsCertificateCut, IsFirstCertFault, cause_behind}
use Rattle.format_words.specs.Reading.{Fails, GivesOne}
use Rattle.format_words.specs.declared.stop.Stop.{Stop}
use Rattle.format_words.specs.declared.stop.Stop.TheVariants as stop
use Rattle.certificate_text.specs.declared.fault.CertCause.{CertCause}
use Rattle.certificate_text.specs.declared.fault.CertCause.TheVariants as cause
use Rattle.certificate_text.specs.CertificateOf.{cause_of, cause_of_stop}
use Rattle.certificate_text.specs.Progress.{IsWrongBehind, LacksMore}
use Rattle.format_words.proofs.Places.{IsThere}
use Rattle.certificate_text.specs.Place.{IsBehindRightLines}

never-cut : (lines : List Line) → format.cut ≡ cause_behind lines → ⊥
never-cut [] e = cc
never-cut (a ∷ []) e = cc
never-cut (a ∷ b ∷ lines) e = cc

first-of : (text : List ℕ) (number : ℕ) (lines : List Line) (cause : format.CertCause)
    → cause ≡ cause_behind lines → HasWrongLine text number cause ⊎ LacksCertificateLine text number cause
    → IsFirstCertFault text number cause
first-of text number lines format.header e fault = fault
first-of text number lines format.kind e fault = fault
first-of text number lines format.shape e fault = fault
first-of text number lines format.cut e fault = absurd (never-cut lines e)

-- a wrong line after right ones
pub wrong-fault : (text : List ℕ) (number : ℕ) (lines : List Line) (line : Line)
    (cause : Option format.CertCause) → IsThere BeginsCertificate text number lines line
    → IfSome cause (IsWrongBehind lines line) → IfSome cause (IsFirstCertFault text number)
wrong-fault text number lines line cause at wrong = IfSome_then cause wrong
    (λ why w. first-of text number lines why w.0 (inl (record {
      good = lines;
      begins = at.begins;
      faulty = line;
      one_line = at.one_line;
      more = at.more;
      text_is = at.text_is;
      number = at.number_is;
      wrong = w.1;
      cause_is = w.0;
    })))

-- a line is missing after right ones
pub lacking-fault : (text : List ℕ) (number : ℕ) (lines : List Line) (cause : Option format.CertCause) →
    text ≡ text_of lines → number ≡ length lines + 1 → BeginsCertificate lines
    → IfSome cause (LacksMore lines) → IfSome cause (IsFirstCertFault text number)
lacking-fault text number lines cause whole is begins lacks = IfSome_then cause lacks
    (λ why l. first-of text number lines why l.0 (inr (record {
      good = lines;
      begins = begins;
      text_is = whole;
      not_whole = l.1;
      number = is;
      cause_is = l.0;
    })))

-- after right lines, bytes without LF
pub cut-fault : (text : List ℕ) (number : ℕ) (lines : List Line) (rest : Line) → 1 ≤ length rest
    → IsOneLine rest → text ≡ text_of lines ++ rest → number ≡ length lines + 1 → BeginsCertificate lines
    → IsCertificateCut text number
cut-fault text number lines rest some one whole is begins =
    record {
      good = lines;
      begins = begins;
      rest = rest;
      some_byte = some;
      one_line = one;
      text_is = whole;
      number = is;
    }

pub nothing-left : (text front rest : List ℕ) → text ≡ front ++ rest → length rest ≡ 0 → text ≡ front
nothing-left text front [] is none = is ∙ append-nil front
nothing-left text front (b ∷ rest) is none = absurd (omega arith)

pub behind-right : (text : List ℕ) (number : ℕ) (lines : List Line) (rest : List ℕ)
    → text ≡ text_of lines ++ rest → number ≡ length lines + 1 → BeginsCertificate lines
    → IsBehindRightLines text number
behind-right text number lines rest whole is begins =
    record { good = lines; begins = begins; rest = rest; text_is = whole; number = is }

-- a line whose reading stopped has the cause of one that says no such thing, or there was no memory
pub stop-fault : {Y : Type 0} (takes : Y → Type 0) (unsaid : CertCause) (s : Stop) (read : Option Y)
    (P : format.CertCause → Type 0) → Fails takes s read → (read ≡ None → IfSome (cause_of unsaid) P)
    → IfSome (cause_of (cause_of_stop unsaid s)) P
stop-fault takes unsaid stop.Shape read P none wrong = wrong none
stop-fault takes unsaid stop.Memory read P none wrong = tt

-- where a line's reading stopped out of memory, there was something that takes memory
pub stop-takes : {Y : Type 0} (takes : Y → Type 0) (unsaid : CertCause) (s : Stop) (read : Option Y)
    → (unsaid ≡ cause.Memory → ⊥) → Fails takes s read → cause_of_stop unsaid s ≡ cause.Memory
    → GivesOne takes read
stop-takes takes unsaid stop.Shape read other none is = absurd (other is)
stop-takes takes unsaid stop.Memory read other some is = some
