-- What was fed has a fault, or none in a line that has its LF.
use Rattle.std.proofs.Common.{◌≡◌, ℕ, zero, suc, ◌+◌, length, length-append, List, [], ◌∷◌, ◌++◌, Option}
use Rattle.std.proofs.Common.{Some, None, IfSome, Result, Ok, Err, IfOk, IfErr, ◌⊎◌, inl, inr, refl, sym, ap}
use Rattle.std.proofs.Common.{◌∙◌, subst, arith, append_assoc}
use Rattle.std.proofs.lemmas.Option.{IfSome_then}
use Rattle.events.specs.History.{History}
use Rattle.events.specs.declared.refusal.Refusal.{Refusal}
use Rattle.specification.specs.Lines.{Line, text_of, IsOneLine}
use Rattle.specification.specs.TraceText as format
use Rattle.specification.specs.Versions as versions
use Rattle.specification.specs.TraceText.{BeginsSpelling, HasWholeFault, IsFaultyLine, IsFirstLineFault}
use Rattle.specification.specs.TraceText.{IsMissingLine, IsCutAt, IsSpelledIn, Spells, trace_lines}
use Rattle.format_words.proofs.Places.{IsThere, takes-at}
use Rattle.trace_text.specs.Causes.{cause_of}
use Rattle.trace_text.specs.Fed.{EndsIn, HoldsFault, IsAdded, IsOpenAt, ReaderState, UNFED, WasFed, WasFedTo}
use Rattle.trace_text.specs.Kept.{EMPTY, Kept}
use Rattle.trace_text.specs.Place.{IsBehindRightLines}
use Rattle.trace_text.specs.declared.cause.LineFault.{LineFault}
use Rattle.trace_text.proofs.Faults.{faulty-there, never-cut, whole-is-first}
use Rattle.trace_text.proofs.FaultyLines.{nothing-begins}
use Rattle.trace_text.proofs.GrowingText.{cut-there, ends-at, ends-on, no-byte}
use Rattle.trace_text.proofs.KeptLines.{empty-kept}
use Rattle.trace_text.proofs.OneFault.{one-fault}

-- whatever follows, the line is there
still-there : (text more : List ℕ) (number : ℕ) (lines : List Line) (line : Line) (behind : List ℕ)
    → BeginsSpelling lines → IsOneLine line → text ≡ text_of lines ++ line ++ 10 ∷ behind
    → number ≡ length lines + 1 → IsThere BeginsSpelling (text ++ more) number lines line
still-there text more number lines line behind begins one text_is is = record {
  begins = begins;
  one_line = one;
  more = behind ++ more;
  text_is = ap (λ t. t ++ more) text_is ∙ append_assoc (text_of lines ++ line) (10 ∷ behind) more;
  number_is = is;
}

whole-on : (text more : List ℕ) (line : ℕ) (cause : format.Cause) → HasWholeFault text line cause
    → HasWholeFault (text ++ more) line cause
whole-on text more line cause f =
    faulty-there (text ++ more) line f.good f.faulty cause
    (still-there text more line f.good f.faulty f.more f.begins f.one_line f.text_is f.number) f.is_faulty

holds-of : (reader : ReaderState) (text : List ℕ) (fault : LineFault) → reader.fault ≡ Some fault
    → WasFed reader text → HoldsFault text fault
holds-of reader text fault is fed = subst (λ o. WasFedTo reader.lines reader.begun o text) is fed

-- the fault of what was fed is that of every text that begins so
pub fault-of-all : (reader : ReaderState) (text more : List ℕ) (fault : LineFault) → reader.fault ≡ Some fault
    → WasFed reader text → IfSome (cause_of fault.cause) (IsFirstLineFault (text ++ more) fault.line)
fault-of-all reader text more fault is fed =
    IfSome_then (cause_of fault.cause) (holds-of reader text fault is fed).faulty
    (λ cause f. whole-is-first (text ++ more) fault.line cause (whole-on text more fault.line cause f))

pub place-of-fault : (reader : ReaderState) (text : List ℕ) (fault : LineFault) → reader.fault ≡ Some fault
    → WasFed reader text → IsBehindRightLines text fault.line
place-of-fault reader text fault is fed =
    let there = (holds-of reader text fault is fed).there in
    record {
      good = there.good;
      begins = there.begins;
      rest = there.next ++ 10 ∷ there.more;
      text_is = there.text_is ∙ append_assoc (text_of there.good) there.next (10 ∷ there.more);
      number = there.number;
    }

not-cut : (text : List ℕ) (line : ℕ) (cause : format.Cause) → HasWholeFault text line cause
    → cause ≡ format.cut → ⊥
not-cut text line cause f is = never-cut f.good f.faulty (subst (IsFaultyLine f.good f.faulty) is f.is_faulty)

one-blank : IsOneLine (32 ∷ [])
one-blank (zero, low, is) = absurd (cc)
one-blank (suc k, low, is) = absurd (omega arith)

-- one blank more: then the text is cut where no other fault is
none-before : (lines : List Line) (old new : Option Kept) (text : List ℕ) (line : ℕ) (cause : format.Cause)
    → BeginsSpelling lines → EndsIn lines old text → IsAdded old (32 ∷ []) new → (new ≡ Some EMPTY → ⊥)
    → HasWholeFault text line cause → ⊥
none-before lines old new text line cause begins ends added some f =
    let blank : IsOneLine (32 ∷ []) = one-blank in
    let cut : IsCutAt (text ++ 32 ∷ []) (length lines + 1) =
    cut-there lines new (text ++ 32 ∷ []) (length lines + 1) begins
    (ends-on lines old new text (32 ∷ []) ends blank added) some refl in
    let longer = whole-on text (32 ∷ []) line cause f in
    not-cut (text ++ 32 ∷ []) line cause longer (one-fault (text ++ 32 ∷ []) line
    (length lines + 1) cause format.cut (whole-is-first (text ++ 32 ∷ []) line cause longer) cut).1

pub none-faulty : (lines : List Line) (begun : Option Kept) (text : List ℕ) (line : ℕ) (cause : format.Cause)
    → WasFedTo lines begun None text → HasWholeFault text line cause → ⊥
none-faulty lines (Some kept) text line cause fed f =
    none-before lines (Some kept) None text line cause fed.0 fed.1 (omega arith) (λ is. absurd (cc)) f
none-faulty lines None text line cause fed f =
    none-before lines None None text line cause fed.0 fed.1 tt (λ is. absurd (cc)) f

pub none-faulty-in : (reader : ReaderState) (text : List ℕ) (line : ℕ) (cause : format.Cause)
    → reader.fault ≡ None → WasFed reader text → HasWholeFault text line cause → ⊥
none-faulty-in reader text line cause is fed =
    none-faulty reader.lines reader.begun text line cause
    (subst (λ o. WasFedTo reader.lines reader.begun o text) is fed)

-- a fault stays, whatever follows
holds-still : (text more : List ℕ) (fault : LineFault) → HoldsFault text fault
    → HoldsFault (text ++ more) fault
holds-still text more fault h = let there = h.there in record {
  there = takes-at BeginsSpelling (λ lines next. Unit {0}) (text ++ more) fault.line there.good there.next
      (still-there text more fault.line there.good there.next there.more there.begins there.one_line
      there.text_is there.number) tt;
  faulty = IfSome_then (cause_of fault.cause) h.faulty (whole-on text more fault.line);
}

pub fed-after-fault : (reader : ReaderState) (text more : List ℕ) (fault : LineFault)
    → reader.fault ≡ Some fault → WasFed reader text → WasFed reader (text ++ more)
fed-after-fault reader text more fault is fed =
    subst (λ o. WasFedTo reader.lines reader.begun o (text ++ more)) (sym is)
    (holds-still text more fault (holds-of reader text fault is fed))

-- a reader of which nothing was asked was fed no byte
pub unfed : (reader : ReaderState) → reader ≡ UNFED → WasFed reader []
unfed reader is = subst (λ r. WasFed r []) (sym is) (nothing-begins, ([], empty-kept, no-byte, refl))

pub not-cut-at-nothing : (line : ℕ) → IsCutAt [] line → ⊥
not-cut-at-nothing line cut =
    absurd (omega (arith, ap length cut.text_is, length-append (text_of cut.good) cut.rest, cut.some_byte))

open-of : (reader : ReaderState) (text : List ℕ) → reader.fault ≡ None → WasFed reader text
    → IsOpenAt reader.lines reader.begun text
open-of reader text is fed = subst (λ o. WasFedTo reader.lines reader.begun o text) is fed

-- a line that is begun is cut
pub begun-cut : (reader : ReaderState) (text : List ℕ) (number : ℕ) → reader.fault ≡ None
    → (reader.begun ≡ Some EMPTY → ⊥) → number ≡ length reader.lines + 1 → WasFed reader text
    → IsCutAt text number
begun-cut reader text number none some is fed = let at = open-of reader text none fed in
    cut-there reader.lines reader.begun text number at.0 at.1 some is

fed-lines : (reader : ReaderState) (text : List ℕ) → reader.fault ≡ None → reader.begun ≡ Some EMPTY
    → WasFed reader text → text ≡ text_of reader.lines
fed-lines reader text none empty fed =
    ends-at reader.lines reader.begun text (open-of reader text none fed).1 empty

-- a text that ends with its right lines is spelled
pub ended-right : {E : Type 0} (r : Result History E) (reader : ReaderState) → reader.fault ≡ None
    → reader.begun ≡ Some EMPTY
    → IfOk r (λ h. (version : versions.Version) × IsSpelledIn version h
    × (reader.lines ≡ trace_lines version h))
    → IfOk r (λ h. (text : List ℕ) → WasFed reader text → Spells text h)
ended-right (Ok h) reader none empty right =
    λ text fed. (right.0, right.1, fed-lines reader text none empty fed ∙ ap text_of right.2)
ended-right (Err e) reader none empty right = tt

never-missing : (lines : List Line) → IsMissingLine lines format.shape ⊎ IsMissingLine lines format.cut → ⊥
never-missing [] h = elim h [ inl f ↦ f | inr f ↦ f ]
never-missing (a ∷ []) h = elim h [ inl f ↦ f | inr f ↦ f ]
never-missing (a ∷ b ∷ lines) h = elim h [ inl f ↦ f | inr f ↦ f ]

never-refused : (lines : List Line) (why : Refusal) → IsMissingLine lines (format.refused why) → ⊥
never-refused [] why f = f
never-refused (a ∷ []) why f = f
never-refused (a ∷ b ∷ lines) why f = f

missing-first : (text : List ℕ) (number : ℕ) (lines : List Line) (cause : Option format.Cause)
    → text ≡ text_of lines → number ≡ length lines + 1 → BeginsSpelling lines
    → IfSome cause (IsMissingLine lines) → IfSome cause (IsFirstLineFault text number)
missing-first text number lines None is at begins f = tt
missing-first text number lines (Some format.header) is at begins f =
    inr (record { good = lines; begins = begins; text_is = is; number = at; missing = f })
missing-first text number lines (Some format.replicas) is at begins f =
    inr (record { good = lines; begins = begins; text_is = is; number = at; missing = f })
missing-first text number lines (Some format.shape) is at begins f = absurd (never-missing lines (inl f))
missing-first text number lines (Some format.cut) is at begins f = absurd (never-missing lines (inr f))
missing-first text number lines (Some (format.refused why)) is at begins f =
    absurd (never-refused lines why f)

-- and lacks a line where one must follow
pub ended-lacking : {A : Type 0} (r : Result A LineFault) (reader : ReaderState) → reader.fault ≡ None
    → reader.begun ≡ Some EMPTY → BeginsSpelling reader.lines
    → IfErr r (λ fault. fault.line ≡ length reader.lines + 1)
    → IfErr r (λ fault. IfSome (cause_of fault.cause) (IsMissingLine reader.lines))
    → IfErr r (λ fault. (text : List ℕ) → WasFed reader text
    → IfSome (cause_of fault.cause) (IsFirstLineFault text fault.line))
ended-lacking (Ok x) reader none empty begins number missing = tt
ended-lacking (Err fault) reader none empty begins number missing =
    λ text fed. missing-first text fault.line reader.lines (cause_of fault.cause)
    (fed-lines reader text none empty fed) number begins missing
