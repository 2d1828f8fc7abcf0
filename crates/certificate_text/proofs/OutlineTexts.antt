-- A text and its certificate, from its lines one by one.
use Rattle.std.proofs.Common.{◌≡◌, ◌≢◌, ℕ, ◌-◌, ◌==◌, List, [], ◌∷◌, ◌++◌, ◌<◌, ◌≤◌, Bool, true, false}
use Rattle.std.proofs.Common.{Option, Some, None, length, map, take, drop, Result, Ok, Err, IfOk, IfErr}
use Rattle.std.proofs.Common.{IfSome, MatchResult, refl, sym, ap, ◌∙◌, subst, arith, append_assoc}
use Rattle.std.proofs.Common.{length-append}
use Rattle.std.proofs.Math.Seq.{take-append_seam}
use Rattle.std.proofs.lemmas.Bool.{false≢true, eqb-true}
use Rattle.std.proofs.lemmas.List.{append-nil, map_push}
use Rattle.std.proofs.lemmas.List.Concat.{flat_map-append}
use Rattle.events.specs.Names.{NameBytes}
use Rattle.specification.specs.Conflict.{Step}
use Rattle.specification.specs.Faults.{doubled, contents, position}
use Rattle.specification.specs.LayerRule.{Row}
use Rattle.specification.specs.Lines.{Line, text_of, names_text, order_line}
use Rattle.specification.specs.CertificateText.{Certificate, names_fault, certificate_text}
use Rattle.specification.specs.CertificateText.{IsRow, kind_lines, version_line, step_line}
use Rattle.specification.specs.CertificateText.{row_line, SpellsCertificate, IsFirstCertFault}
use Rattle.specification.specs.Versions.{Version}
use Rattle.certificate_text.specs.CertificateOf.{version_in, cause_of}
use Rattle.format_words.specs.Words.{words_of}
use Rattle.format_words.specs.Reading.{GivesOne}
use Rattle.certificate_text.specs.Outlines.{Outlines, Tells, EndsOutline, IsFaultOfKind, SaysAll}
use Rattle.certificate_text.specs.Progress.{IsKind, kind_line}
use Rattle.certificate_text.specs.Reading.{order_at, row_at}
use Rattle.certificate_text.specs.declared.kind.Kind.{Kind}
use Rattle.certificate_text.specs.declared.kind.Kind.TheVariants as kind
use Rattle.certificate_text.specs.declared.version.Version as declared_version
use Rattle.certificate_text.specs.declared.outline.Outline.{Outline}
use Rattle.certificate_text.specs.declared.fault.CertFault.{CertFault}
use Rattle.certificate_text.specs.declared.fault.CertCause.TheVariants as cause
use Rattle.certificate_text.proofs.StepLines.{order-spells}
use Rattle.certificate_text.proofs.RowLines.{row-spells}
use Rattle.certificate_text.proofs.OneCertificate.{one-certificate, only-memory}
use Rattle.certificate_text.proofs.OutlineFaults.{one-text, next-text, text-then}

-- the whole text, from its first line and the others
pub headed-text : (version : Version) (c : Certificate) (text rest : List ℕ)
    → text ≡ version_line version ++ 10 ∷ rest → rest ≡ text_of (kind_lines c)
    → text ≡ certificate_text version c
headed-text version c text rest is others = is ∙ ap (λ t. version_line version ++ 10 ∷ t) others
    ∙ sym (append_assoc (version_line version) (10 ∷ []) (text_of (kind_lines c)))

-- a line, and one more after which nothing stands
pub two-lines-text : (first line : Line) (text rest : List ℕ) → text ≡ line ++ 10 ∷ rest → rest ≡ []
    → text_of (first ∷ []) ++ text ≡ text_of (first ∷ line ∷ [])
two-lines-text first line text rest is none =
    ap (λ t. text_of (first ∷ []) ++ t) (one-text text line rest is ∙ ap (λ t. text_of (line ∷ []) ++ t) none
    ∙ append-nil (text_of (line ∷ []))) ∙ text-then first (line ∷ [])

-- nothing after a line
one-line-text : (first : Line) (text : List ℕ) → text ≡ [] → text_of (first ∷ []) ++ text
    ≡ text_of (first ∷ [])
one-line-text first text none = ap (λ t. text_of (first ∷ []) ++ t) none ∙ append-nil (text_of (first ∷ []))

-- nothing after a fault's name
pub alone-ends : (k : Kind) (outline : Outline) (text : List ℕ) → IsKind k → SaysAll k outline → text ≡ []
    → EndsOutline k text outline
alone-ends (kind.Doubled first again) outline text good all none = (
  names_fault (doubled first again),
  good,
  one-line-text (kind_line (kind.Doubled first again)) text none,
  subst (λ (o : Outline). Outlines o (names_fault (doubled first again))) (sym all) refl,
)
alone-ends (kind.Contents at) outline text good all none = (
  names_fault (contents at),
  good,
  one-line-text (kind_line (kind.Contents at)) text none,
  subst (λ (o : Outline). Outlines o (names_fault (contents at))) (sym all) refl,
)
alone-ends (kind.Position at) outline text good all none = (
  names_fault (position at),
  good,
  one-line-text (kind_line (kind.Position at)) text none,
  subst (λ (o : Outline). Outlines o (names_fault (position at))) (sym all) refl,
)
alone-ends kind.Accepted outline text good all none = absurd all
alone-ends (kind.Refused k) outline text good all none = absurd all

-- one line of a kind more
pub one-more : {X : Type 0} (f : X → Line) (xs : List X) (x : X) (text rest more : List ℕ)
    → text ≡ text_of (map f xs) ++ rest → rest ≡ f x ++ 10 ∷ more
    → text ≡ text_of (map f (xs ++ x ∷ [])) ++ more
one-more f xs x text rest more is cut = next-text text (map f xs) rest (f x) more is cut
    ∙ ap (λ (l : List Line). text_of l ++ more) (sym (map_push f xs x))

-- the first line of a text, by what it says
pub line-is : (text line same more : List ℕ) → text ≡ line ++ 10 ∷ more → line ≡ same
    → text ≡ same ++ 10 ∷ more
line-is text line same more is e = is ∙ ap (λ l. l ++ 10 ∷ more) e

pub shorter-rest : (text line more : List ℕ) → text ≡ line ++ 10 ∷ more → length more < length text
shorter-rest text line more is = omega (arith, ap length is, length-append line (10 ∷ more))

pub empty-is : (text : List ℕ) (t : Bool) → t ≡ (length text == 0) → t ≡ true → text ≡ []
empty-is [] t e h = refl
empty-is (b ∷ text) t e h = let none : length (b ∷ text) ≡ 0 = eqb-true (length (b ∷ text)) 0 (sym e ∙ h) in
    absurd (omega (arith, none))

pub some-byte : (text : List ℕ) (t : Bool) → t ≡ (length text == 0) → t ≡ false → 1 ≤ length text
some-byte [] t e h = absurd (false≢true (sym h ∙ e))
some-byte (b ∷ text) t e h = omega arith

-- a line that is a row
pub row-told : (k : ℕ) (line : Line) (t : Bool) → Tells t (row_at k (words_of line)) → t ≡ true
    → (row : Row) × IsRow k row × (line ≡ row_line row)
row-told k line false told is = absurd (cc)
row-told k line true told is = go (row_at k (words_of line)) refl told
  where
    go : (o : Option Row) → row_at k (words_of line) ≡ o → GivesOne (λ row. Unit {0}) o
        → (row : Row) × IsRow k row × (line ≡ row_line row)
    go None e h = absurd h
    go (Some row) e h = let p = row-spells k line row e in (row, p.0, p.1)

pub untold : {Y : Type 0} (t : Bool) (read : Option Y) → Tells t read → t ≡ false → read ≡ None
untold true read told is = absurd (cc)
untold false read told is = told

-- the names of an order's line
pub some-order : (line : Line) → GivesOne (λ order. Unit {0}) (order_at (words_of line))
    → (order : List NameBytes) × (order_at (words_of line) ≡ Some order) × (line ≡ order_line order)
some-order line some = go (order_at (words_of line)) refl some
  where
    go : (o : Option (List NameBytes)) → order_at (words_of line) ≡ o → GivesOne (λ order. Unit {0}) o
        → (order : List NameBytes) × (order_at (words_of line) ≡ Some order) × (line ≡ order_line order)
    go None e h = absurd h
    go (Some order) e h = (order, e, (order-spells line order e).1)

pub order-long : (line : Line) (order : List NameBytes) → line ≡ order_line order → 7 ≤ length line
order-long line order is = rw is (omega arith)

pub order-rest : (line : Line) (order : List NameBytes) → line ≡ order_line order
    → drop 7 line ≡ names_text order
order-rest line order is = rw is refl

-- what holds of a kind holds of the same one
pub same-ok : (k j : Kind) (text : List ℕ) (result : Result Outline CertFault) → k ≡ j
    → IfOk result (EndsOutline j text) → IfOk result (EndsOutline k text)
same-ok k j text result is h = subst (λ (i : Kind). IfOk result (EndsOutline i text)) (sym is) h

pub same-err : (k j : Kind) (text : List ℕ) (result : Result Outline CertFault) → k ≡ j
    → IfErr result (λ fault. IsFaultOfKind j text fault.line fault.cause)
    → IfErr result (λ fault. IsFaultOfKind k text fault.line fault.cause)
same-err k j text result is h =
    subst (λ (i : Kind). IfErr result (λ fault. IsFaultOfKind i text fault.line fault.cause)) (sym is) h

-- a cycle's lines
pub cycle-text : (first : Line) (steps : List Step) (rows : List Row) (text rest : List ℕ)
    → text ≡ text_of (map step_line steps) ++ rest → rest ≡ text_of (map row_line rows) →
    text_of (first ∷ []) ++ text ≡ text_of (first ∷ (map step_line steps ++ map row_line rows))
cycle-text first steps rows text rest is others =
    ap (λ t. text_of (first ∷ []) ++ t) (is ∙ ap (λ t. text_of (map step_line steps) ++ t) others
    ∙ sym (flat_map-append (λ (l : Line). l ++ 10 ∷ []) (map step_line steps) (map row_line rows)))
    ∙ text-then first (map step_line steps ++ map row_line rows)

-- what stands before the rest
pub front-text : (front text rest : List ℕ) (n : ℕ) → text ≡ front ++ rest → n ≡ length text - length rest
    → take n text ≡ front
front-text front text rest n is at =
    let same : n ≡ length front = omega (arith, at, ap length is, length-append front rest) in
    ap (λ m. take m text) same ∙ ap (λ t. take (length front) t) is ∙ take-append_seam front rest

-- what is spelled is read
pub outline-back : (text : List ℕ) (result : Result (declared_version.Version × Outline) CertFault)
    → IfOk result (λ r. (c : Certificate) × SpellsCertificate text (version_in r.0) c × Outlines r.1 c) →
    IfErr result (λ fault. IfSome (cause_of fault.cause) (IsFirstCertFault text fault.line))
    → IfErr result (λ fault. fault.cause ≢ cause.Memory) →
    (version : Version) (c : Certificate) → SpellsCertificate text version c
    → MatchResult result (λ r. (version_in r.0 ≡ version) × Outlines r.1 c) (λ fault. ⊥)
outline-back text (Ok r) ok fault memory version c spelled =
    let same = one-certificate text (version_in r.0) version ok.0 c ok.1 spelled in
    (same.0, subst (λ (d : Certificate). Outlines r.1 d) same.1 ok.2)
outline-back text (Err e) ok fault memory version c spelled =
    memory (only-memory text version c spelled e.line e.cause fault)
