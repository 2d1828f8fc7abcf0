-- A text that spells a certificate spells no other, and has no fault.
use Rattle.std.proofs.Common.{◌≡◌, ℕ, List, [], ◌∷◌, length, map, codes, refl, sym, ap, ◌∙◌, subst}
use Rattle.std.proofs.Common.{inl, inr, append_assoc, Result, Ok, Err, MatchResult, IfOk, IfErr, IfSome}
use Rattle.std.specs.List.{All}
use Rattle.std.proofs.lemmas.List.Elements.{All-cons, All-nil, All-append, All-map, All-weaker}
use Rattle.specification.specs.Conflict.{Step}
use Rattle.specification.specs.Faults.{doubled, contents, position}
use Rattle.specification.specs.LayerRule.{Row}
use Rattle.specification.specs.Lines.{Line, order_line}
use Rattle.specification.specs.CertificateText as format
use Rattle.specification.specs.CertificateText.{Certificate, names_fault, gives_order, gives_cycle}
use Rattle.specification.specs.CertificateText.{certificate_lines, certificate_text, step_line, row_line}
use Rattle.specification.specs.CertificateText.{IsSpellable, IsStep, IsRow, SpellsCertificate}
use Rattle.specification.specs.CertificateText.{BeginsCertificate, HasWrongLine, LacksCertificateLine}
use Rattle.specification.specs.CertificateText.{IsCertificateCut, IsFirstCertFault, version_line}
use Rattle.specification.specs.Versions.{Version, one, two}
use Rattle.format_words.proofs.Bytes.{lacks-literal}
use Rattle.format_words.proofs.ByLines.{one-version}
use Rattle.format_words.proofs.LineLists.{same-list, same-all}
use Rattle.format_words.proofs.Spaced.{spaced-lacks}
use Rattle.format_words.proofs.TextLines.{LacksLf, all-front, same-lines, never-cut, line-stands}
use Rattle.certificate_text.specs.CertificateOf.{certificate_of, version_in, cause_of}
use Rattle.certificate_text.specs.Progress.{kind_line}
use Rattle.certificate_text.specs.declared.certificate.Certificate as declared
use Rattle.certificate_text.specs.declared.version.Version as declared_version
use Rattle.certificate_text.specs.declared.fault.CertCause.{CertCause}
use Rattle.certificate_text.specs.declared.fault.CertCause.TheVariants as cause
use Rattle.certificate_text.specs.declared.fault.CertFault.{CertFault}
use Rattle.certificate_text.specs.declared.kind.Kind.{Kind}
use Rattle.certificate_text.proofs.KindLines.{kind_word, kind_more, kind-spaced, kind-word-plain}
use Rattle.certificate_text.proofs.KindLines.{kind-more-plain}
use Rattle.certificate_text.proofs.FirstSteps.{step-lacks}
use Rattle.certificate_text.proofs.StepLines.{one-step, order-plain, plain-order, one-order}
use Rattle.certificate_text.proofs.RowLines.{layers_words, row-spaced, plain-layers, row-plain, one-row}
use Rattle.certificate_text.proofs.GoingOn.{kind_of, rest_lines, lines-parts, kind-good, kind-behind}

-- no LF stands in a spelling's lines

row-lacks : (k : ℕ) (r : Row) → IsRow k r → LacksLf (row_line r)
row-lacks k r h =
    subst LacksLf (sym (row-spaced r))
    (spaced-lacks (codes "layers") (layers_words r) plain-layers (row-plain r h.names))

rest-lack : (c : Certificate) → IsSpellable c → All LacksLf (rest_lines c)
rest-lack (names_fault fault) h = All-nil LacksLf
rest-lack (gives_order order) h =
    All-cons LacksLf (order_line order) []
    (spaced-lacks (codes "order") (codes ":" ∷ order) plain-order (order-plain order h)) (All-nil LacksLf)
rest-lack (gives_cycle k steps rows) h =
    All-append LacksLf (map step_line steps) (map row_line rows)
    (All-map LacksLf step_line steps (All-weaker IsStep (λ s. LacksLf (step_line s)) step-lacks steps h.3))
    (All-map LacksLf row_line rows (All-weaker (IsRow k) (λ r. LacksLf (row_line r)) (row-lacks k) rows h.5))

kind-lacks : (k : Kind) → (c : Certificate) → IsSpellable c → kind_of c ≡ k → LacksLf (kind_line (kind_of c))
kind-lacks k c h e =
    subst LacksLf (sym (kind-spaced (kind_of c))) (spaced-lacks (kind_word (kind_of c))
    (kind_more (kind_of c)) (kind-word-plain (kind_of c)) (kind-more-plain (kind_of c) (kind-good c h)))

first-lacks : (version : Version) → LacksLf (version_line version)
first-lacks one = lacks-literal 10 (version_line one) refl
first-lacks two = lacks-literal 10 (version_line two) refl

lines-lack : (version : Version) (c : Certificate) → IsSpellable c → All LacksLf (certificate_lines version c)
lines-lack version c h =
    subst (All LacksLf) (sym (lines-parts version c))
    (All-cons LacksLf (version_line version) (kind_line (kind_of c) ∷ rest_lines c) (first-lacks version)
    (All-cons LacksLf (kind_line (kind_of c)) (rest_lines c) (kind-lacks (kind_of c) c h refl)
    (rest-lack c h)))

pub beginning-lacks : (lines : List Line) → BeginsCertificate lines → All LacksLf lines
beginning-lacks lines (version, c, spellable, more, is) =
    all-front LacksLf lines more (subst (All LacksLf) (sym is) (lines-lack version c spellable))

-- the lines tell the certificate

of-kind : (c d : Certificate) → IsSpellable c → IsSpellable d → kind_of c ≡ kind_of d
    → rest_lines c ≡ rest_lines d → c ≡ d
of-kind (names_fault (doubled a b)) (names_fault (doubled f g)) h k e is = cc
of-kind (names_fault (doubled a b)) (names_fault (contents at)) h k e is = absurd (cc)
of-kind (names_fault (doubled a b)) (names_fault (position at)) h k e is = absurd (cc)
of-kind (names_fault (doubled a b)) (gives_order order) h k e is = absurd (cc)
of-kind (names_fault (doubled a b)) (gives_cycle n steps rows) h k e is = absurd (cc)
of-kind (names_fault (contents o)) (names_fault (doubled f g)) h k e is = absurd (cc)
of-kind (names_fault (contents o)) (names_fault (contents at)) h k e is = cc
of-kind (names_fault (contents o)) (names_fault (position at)) h k e is = absurd (cc)
of-kind (names_fault (contents o)) (gives_order order) h k e is = absurd (cc)
of-kind (names_fault (contents o)) (gives_cycle n steps rows) h k e is = absurd (cc)
of-kind (names_fault (position o)) (names_fault (doubled f g)) h k e is = absurd (cc)
of-kind (names_fault (position o)) (names_fault (contents at)) h k e is = absurd (cc)
of-kind (names_fault (position o)) (names_fault (position at)) h k e is = cc
of-kind (names_fault (position o)) (gives_order order) h k e is = absurd (cc)
of-kind (names_fault (position o)) (gives_cycle n steps rows) h k e is = absurd (cc)
of-kind (gives_order o) (names_fault (doubled f g)) h k e is = absurd (cc)
of-kind (gives_order o) (names_fault (contents at)) h k e is = absurd (cc)
of-kind (gives_order o) (names_fault (position at)) h k e is = absurd (cc)
of-kind (gives_order o) (gives_order order) h k e is = let line : order_line o ≡ order_line order = cc in
    ap gives_order (one-order o order h k line)
of-kind (gives_order o) (gives_cycle n steps rows) h k e is = absurd (cc)
of-kind (gives_cycle m ss rs) (names_fault (doubled f g)) h k e is = absurd (cc)
of-kind (gives_cycle m ss rs) (names_fault (contents at)) h k e is = absurd (cc)
of-kind (gives_cycle m ss rs) (names_fault (position at)) h k e is = absurd (cc)
of-kind (gives_cycle m ss rs) (gives_order order) h k e is = absurd (cc)
of-kind (gives_cycle m ss rs) (gives_cycle n steps rows) h k e is =
    let number : m ≡ n = cc in
    let many : length ss ≡ length steps = h.2 ∙ number ∙ sym k.2 in
    let both =
    same-list step_line IsStep IsStep one-step ss steps (map row_line rs) (map row_line rows) many h.3 k.3
    is in
    let others =
    same-all row_line (IsRow n) (IsRow n) (one-row n) rs rows
    (subst (λ (m : ℕ). All (IsRow m) rs) number h.5) k.5 both.1 in
    ap (λ (i : ℕ). gives_cycle i ss rs) number ∙ ap (λ (l : List Step). gives_cycle n l rs) both.0
    ∙ ap (λ (l : List Row). gives_cycle n steps l) others

same-certificate : (version other : Version) (c d : Certificate) → IsSpellable c → IsSpellable d
    → certificate_lines version c ≡ certificate_lines other d → (version ≡ other) × (c ≡ d)
same-certificate version other c d h k is =
    let p = kind-behind other (version_line version) d (kind_of c) (rest_lines c) k (kind-good c h)
    (sym (lines-parts version c) ∙ is) in
    let first : version_line version ≡ version_line other = cc in
    (one-version version_line refl version other first, of-kind c d h k (sym p.0) p.1)

-- a text spells at most one certificate
pub one-certificate : (text : List ℕ) (version other : Version) (c d : Certificate)
    → SpellsCertificate text version c → SpellsCertificate text other d → (version ≡ other) × (c ≡ d)
one-certificate text version other c d (h, is) (k, also) =
    same-certificate version other c d h k (same-lines text (certificate_lines version c)
    (certificate_lines other d) (lines-lack version c h) (lines-lack other d k) is also)

no-wrong-line : (version : Version) (c : Certificate) (text : List ℕ) (line : ℕ) (cause : format.CertCause)
    → SpellsCertificate text version c → HasWrongLine text line cause → ⊥
no-wrong-line version c text line cause (h, is) fault =
    let stands =
    line-stands text (certificate_lines version c) fault.good fault.faulty fault.more
    (lines-lack version c h) (beginning-lacks fault.good fault.begins) fault.one_line is fault.text_is in
    fault.wrong (version, c, h, stands.0, append_assoc fault.good (fault.faulty ∷ []) stands.0 ∙ sym stands.1)

none-lacking : (version : Version) (c : Certificate) (text : List ℕ) (line : ℕ) (cause : format.CertCause)
    → SpellsCertificate text version c → LacksCertificateLine text line cause → ⊥
none-lacking version c text line cause (h, is) lacks =
    lacks.not_whole (
      version,
      c,
      h,
      same-lines text lacks.good (certificate_lines version c) (beginning-lacks lacks.good lacks.begins)
          (lines-lack version c h) lacks.text_is is,
    )

not-cut : (version : Version) (c : Certificate) (text : List ℕ) (line : ℕ) → SpellsCertificate text version c
    → IsCertificateCut text line → ⊥
not-cut version c text line (h, is) cut =
    never-cut text (certificate_lines version c) cut.good cut.rest (lines-lack version c h)
    (beginning-lacks cut.good cut.begins) cut.one_line cut.some_byte is cut.text_is

-- a text that spells a certificate has no fault
pub no-fault : (version : Version) (c : Certificate) (text : List ℕ) (line : ℕ) (why : format.CertCause)
    → SpellsCertificate text version c → IsFirstCertFault text line why → ⊥
no-fault version c text line format.header s (inl wrong) =
    no-wrong-line version c text line format.header s wrong
no-fault version c text line format.header s (inr lacks) =
    none-lacking version c text line format.header s lacks
no-fault version c text line format.kind s (inl wrong) = no-wrong-line version c text line format.kind s wrong
no-fault version c text line format.kind s (inr lacks) = none-lacking version c text line format.kind s lacks
no-fault version c text line format.shape s (inl wrong) =
    no-wrong-line version c text line format.shape s wrong
no-fault version c text line format.shape s (inr lacks) =
    none-lacking version c text line format.shape s lacks
no-fault version c text line format.cut s cut = not-cut version c text line s cut

pub only-memory : (text : List ℕ) (version : Version) (c : Certificate) → SpellsCertificate text version c
    → (line : ℕ) (why : CertCause) → IfSome (cause_of why) (IsFirstCertFault text line) → why ≡ cause.Memory
only-memory text version c s line cause.Header fault =
    absurd (no-fault version c text line format.header s fault)
only-memory text version c s line cause.Kind fault = absurd (no-fault version c text line format.kind s fault)
only-memory text version c s line cause.Shape fault =
    absurd (no-fault version c text line format.shape s fault)
only-memory text version c s line cause.Cut fault = absurd (no-fault version c text line format.cut s fault)
only-memory text version c s line cause.Memory fault = refl

-- what is spelled is read, unless memory runs out
pub read-back : (text : List ℕ) (result : Result (declared_version.Version × declared.Certificate) CertFault)
    → IfOk result (λ r. SpellsCertificate text (version_in r.0) (certificate_of r.1))
    → IfErr result (λ fault. IfSome (cause_of fault.cause) (IsFirstCertFault text fault.line)) →
    (version : Version) (c : Certificate) → SpellsCertificate text version c
    → MatchResult result (λ r. (version_in r.0 ≡ version) × (certificate_of r.1 ≡ c))
    (λ fault. fault.cause ≡ cause.Memory)
read-back text (Ok r) ok fault version c spelled =
    one-certificate text (version_in r.0) version (certificate_of r.1) c ok spelled
read-back text (Err e) ok fault version c spelled = only-memory text version c spelled e.line e.cause fault
