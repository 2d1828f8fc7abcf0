-- The first fault of a text, from how its lines go on after right ones.
use Rattle.std.proofs.Common.{◌≡◌, ◌≢◌, ℕ, ◌+◌, ◌<◌, ◌≤◌, ◌^◌, List, [], ◌∷◌, ◌++◌, length, map, codes, Some}
use Rattle.std.proofs.Common.{None, IfSome, refl, sym, ap, ◌∙◌, subst, arith, inl, inr, append_assoc}
use Rattle.std.proofs.Common.{length-append}
use Rattle.std.specs.List.{All}
use Rattle.std.proofs.lemmas.List.{append-nil, length-map}
use Rattle.std.proofs.lemmas.List.Concat.{flat_map-append}
use Rattle.std.proofs.lemmas.List.Elements.{All-nil}
use Rattle.std.proofs.lemmas.Option.{none-some}
use Rattle.events.specs.Names.{NameBytes, IsName}
use Rattle.specification.specs.Conflict.{Step}
use Rattle.specification.specs.Faults.{doubled, contents, position}
use Rattle.specification.specs.LayerRule.{Row}
use Rattle.specification.specs.Lines.{Line, text_of, IsOneLine, order_line}
use Rattle.specification.specs.CertificateText as format
use Rattle.specification.specs.CertificateText.{Certificate, names_fault, gives_order, gives_cycle}
use Rattle.specification.specs.CertificateText.{certificate_lines, step_line, row_line, version_line}
use Rattle.specification.specs.CertificateText.{IsSpellable, IsStep, IsRow, BeginsCertificate}
use Rattle.specification.specs.CertificateText.{IsWholeCertificate, IsFirstCertFault, cause_behind}
use Rattle.specification.specs.Versions.{Version}
use Rattle.format_words.specs.Words.{words_of}
use Rattle.format_words.proofs.Places.{is-there}
use Rattle.certificate_text.specs.CertificateOf.{cause_of}
use Rattle.certificate_text.specs.Outlines.{Misses, IsFaultBehind, IsFaultOfKind, NamesFault}
use Rattle.certificate_text.specs.Progress.{IsKind, IsPartOfCycle, IsWrongBehind, LacksMore, kind_line}
use Rattle.certificate_text.specs.Reading.{kind_at, order_at, step_at, row_at}
use Rattle.certificate_text.specs.declared.fault.CertCause.{CertCause}
use Rattle.certificate_text.specs.declared.fault.CertCause.TheVariants as cause
use Rattle.certificate_text.specs.declared.kind.Kind.{Kind}
use Rattle.certificate_text.specs.declared.kind.Kind.TheVariants as kind
use Rattle.certificate_text.proofs.Begins.{cycle-begins, empty-order, headed-begins, kind-begins}
use Rattle.certificate_text.proofs.Begins.{order-begins}
use Rattle.certificate_text.proofs.FirstFaults.{wrong-fault, lacking-fault, cut-fault}
use Rattle.certificate_text.proofs.GoingOn.{kind_of, rest_lines, kind-behind, no-kind, no-order, no-step}
use Rattle.certificate_text.proofs.GoingOn.{no-row, no-more-of-two, lacks-step}

pub unread-line : (unsaid : CertCause) (Unread : Line → Type 0) (text line more : List ℕ)
    → IsOneLine line × (text ≡ line ++ 10 ∷ more) → Unread line → Misses unsaid Unread text unsaid
unread-line unsaid Unread text line more cut unread = inr (refl, (line, more, cut.0, cut.1, unread))

said : (P : format.CertCause → Type 0) (unsaid why : CertCause) (x : format.CertCause) → why ≡ unsaid
    → cause_of unsaid ≡ Some x → IfSome (cause_of unsaid) P → IfSome (cause_of why) P × (why ≢ cause.Memory)
said P unsaid why x e is h =
    subst (λ (w : CertCause). IfSome (cause_of w) P × (w ≢ cause.Memory)) (sym e)
    (h, (λ m. none-some x (ap cause_of (sym m) ∙ is)))

-- where none of the lines that go on the right ones stands first, the first fault is there
pub misses-fault : (lines : List Line) (text : List ℕ) (unsaid why : CertCause) (Unread : Line → Type 0)
    (number : ℕ) →
    number ≡ length lines + 1 → BeginsCertificate lines → cause_of unsaid ≡ Some (cause_behind lines)
    → (text ≡ [] → ¬ IsWholeCertificate lines)
    → ((line : Line) → Unread line → ¬ BeginsCertificate (lines ++ line ∷ [])) →
    Misses unsaid Unread text why → IsFaultBehind lines text number why
misses-fault lines text unsaid why Unread number at begins is whole wrong (inl (inl (e, none))) =
    said (IsFirstCertFault (text_of lines ++ text) number) unsaid why (cause_behind lines) e is
    (lacking-fault (text_of lines ++ text) number lines (cause_of unsaid) (ap (λ t. text_of lines ++ t) none
    ∙ append-nil (text_of lines)) at begins
    (subst (λ o. IfSome o (LacksMore lines)) (sym is) (refl, whole none)))
misses-fault lines text unsaid why Unread number at begins is whole wrong
    (inr (e, (line, more, one, cut, unread))) =
    said (IsFirstCertFault (text_of lines ++ text) number) unsaid why (cause_behind lines) e is
    (wrong-fault (text_of lines ++ text) number lines line (cause_of unsaid)
    (is-there BeginsCertificate (text_of lines ++ text) number lines line text more refl cut one at begins)
    (subst (λ o. IfSome o (IsWrongBehind lines line)) (sym is) (refl, wrong line unread)))
misses-fault lines text unsaid why Unread number at begins is whole wrong (inl (inr (e, some, one))) =
    subst (λ (w : CertCause). IsFaultBehind lines text number w) (sym e)
    (cut-fault (text_of lines ++ text) number lines text some one refl at begins, (λ m. cc))

-- a fault after more right lines is one after the first of them
pub fault-behind : (lines more : List Line) (text rest : List ℕ) (number : ℕ) (why : CertCause)
    → text ≡ text_of more ++ rest → IsFaultBehind (lines ++ more) rest number why
    → IsFaultBehind lines text number why
fault-behind lines more text rest number why is h =
    let same : text_of (lines ++ more) ++ rest ≡ text_of lines ++ text =
    ap (λ t. t ++ rest) (flat_map-append (λ (line : Line). line ++ 10 ∷ []) lines more)
    ∙ append_assoc (text_of lines) (text_of more) rest ∙ ap (λ t. text_of lines ++ t) (sym is) in
    subst (λ (t : List ℕ). IfSome (cause_of why) (IsFirstCertFault t number) × (why ≢ cause.Memory)) same h

-- a line and what follows
pub one-text : (text line rest : List ℕ) → text ≡ line ++ 10 ∷ rest → text ≡ text_of (line ∷ []) ++ rest
one-text text line rest is =
    is ∙ sym (ap (λ t. t ++ rest) (append-nil (line ++ 10 ∷ [])) ∙ append_assoc line (10 ∷ []) rest)

-- a fault after the first line is one of the text
pub headed-fault : (version : Version) (text rest : List ℕ) (number : ℕ) (why : CertCause)
    → text ≡ version_line version ++ 10 ∷ rest
    → ((v : Version) → IsFaultBehind (version_line v ∷ []) rest number why) → IsFaultBehind [] text number why
headed-fault version text rest number why is behind =
    fault-behind [] (version_line version ∷ []) text rest number why
    (one-text text (version_line version) rest is) (behind version)

-- one line more
pub next-text : (text : List ℕ) (lines : List Line) (rest line more : List ℕ) → text ≡ text_of lines ++ rest
    → rest ≡ line ++ 10 ∷ more → text ≡ text_of (lines ++ line ∷ []) ++ more
next-text text lines rest line more is cut =
    is ∙ ap (λ t. text_of lines ++ t) (one-text rest line more cut)
    ∙ sym (append_assoc (text_of lines) (text_of (line ∷ [])) more)
    ∙ ap (λ t. t ++ more) (sym (flat_map-append (λ (l : Line). l ++ 10 ∷ []) lines (line ∷ [])))

-- a line, and the text of others
pub text-then : (line : Line) (lines : List Line) → text_of (line ∷ []) ++ text_of lines
    ≡ text_of (line ∷ lines)
text-then line lines = ap (λ t. t ++ text_of lines) (append-nil (line ++ 10 ∷ []))

-- the first lines

pub version-fault : (text : List ℕ) (why : CertCause) → Misses cause.Header (λ line. (version : Version)
    → line ≢ version_line version) text why → IsFaultBehind [] text 1 why
version-fault text why misses =
    misses-fault [] text cause.Header why (λ line. (version : Version)
    → line ≢ version_line version) 1 refl empty-order refl (λ _ whole. no-lines whole) no-version misses
  where
    no-lines : IsWholeCertificate [] → ⊥
    no-lines (w, c, spellable, is) = cc

    no-version : (line : Line) → ((version : Version) → line ≢ version_line version)
        → ¬ BeginsCertificate ([] ++ line ∷ [])
    no-version line other (w, c, spellable, more, is) = other w (cc)

pub kind-fault : (version : Version) (text : List ℕ) (why : CertCause)
    → Misses cause.Kind (λ line. kind_at (words_of line) ≡ None) text why
    → IsFaultBehind (version_line version ∷ []) text 2 why
kind-fault version text why misses =
    misses-fault (version_line version ∷ []) text cause.Kind why (λ line. kind_at (words_of line) ≡ None) 2
    refl (headed-begins version) refl (λ _ whole. no-kind-line whole) (no-kind version) misses
  where
    no-kind-line : IsWholeCertificate (version_line version ∷ []) → ⊥
    no-kind-line (w, names_fault (doubled first again), spellable, is) = cc
    no-kind-line (w, names_fault (contents at), spellable, is) = cc
    no-kind-line (w, names_fault (position at), spellable, is) = cc
    no-kind-line (w, gives_order order, spellable, is) = cc
    no-kind-line (w, gives_cycle k steps rows, spellable, is) = cc

-- after a fault's name nothing stands

nothing-behind : (k : Kind) → NamesFault k → (c : Certificate) (line : Line) (more : List Line)
    → kind_of c ≡ k → line ∷ more ≡ rest_lines c → ⊥
nothing-behind k fault (names_fault f) line more e is = cc
nothing-behind k fault (gives_order order) line more e is = subst NamesFault (sym e) fault
nothing-behind k fault (gives_cycle n steps rows) line more e is = subst NamesFault (sym e) fault

pub alone-fault : (k : Kind) (text : List ℕ) (why : CertCause) → IsKind k → NamesFault k → 1 ≤ length text
    → Misses cause.Shape (λ line. Unit {0}) text why → IsFaultOfKind k text 3 why
alone-fault k text why good fault some misses = λ version.
    misses-fault (version_line version ∷ kind_line k ∷ []) text cause.Shape why (λ line. Unit {0}) 3 refl
    (kind-begins version k good) refl (λ empty. absurd (omega (arith, ap length empty, some)))
    (λ line _. none-behind version line) misses
  where
    none-behind : (version : Version) (line : Line)
        → ¬ BeginsCertificate ((version_line version ∷ kind_line k ∷ []) ++ line ∷ [])
    none-behind version line (w, c, spellable, more, is) =
        let p = kind-behind w (version_line version) c k (line ∷ more) spellable good is in
        nothing-behind k fault c line more p.0 p.1

-- orders

pub order-fault : (version : Version) (text : List ℕ) (why : CertCause)
    → Misses cause.Shape (λ line. order_at (words_of line) ≡ None) text why
    → IsFaultBehind (version_line version ∷ codes "accepted" ∷ []) text 3 why
order-fault version text why misses =
    misses-fault (version_line version ∷ codes "accepted" ∷ []) text cause.Shape why
    (λ line. order_at (words_of line) ≡ None) 3 refl (kind-begins version kind.Accepted tt) refl
    (λ _ whole. lacks-order whole) (no-order version) misses
  where
    some-rest : (c : Certificate) → kind_of c ≡ kind.Accepted → [] ≡ rest_lines c → ⊥
    some-rest (names_fault (doubled first again)) e is = cc
    some-rest (names_fault (contents at)) e is = cc
    some-rest (names_fault (position at)) e is = cc
    some-rest (gives_order order) e is = cc
    some-rest (gives_cycle k steps rows) e is = cc

    lacks-order : IsWholeCertificate (version_line version ∷ codes "accepted" ∷ []) → ⊥
    lacks-order (w, c, spellable, is) = let p =
        kind-behind w (version_line version) c kind.Accepted [] spellable tt is in some-rest c p.0 p.1

-- after an order nothing stands
pub ordered-fault : (version : Version) (order : List NameBytes) (text rest : List ℕ) (why : CertCause)
    → All IsName order → text ≡ order_line order ++ 10 ∷ rest → 1 ≤ length rest
    → Misses cause.Shape (λ line. Unit {0}) rest why →
    IsFaultBehind (version_line version ∷ codes "accepted" ∷ []) text 4 why
ordered-fault version order text rest why h is some misses =
    fault-behind (version_line version ∷ codes "accepted" ∷ []) (order_line order ∷ []) text rest 4 why
    (one-text text (order_line order) rest is)
    (misses-fault (certificate_lines version (gives_order order)) rest cause.Shape why
    (λ line. Unit {0}) 4 refl (order-begins version order h) refl
    (λ empty. absurd (omega (arith, ap length empty, some))) (λ line _. none-more line) misses)
  where
    no-second : (c : Certificate) (line : Line) (more : List Line) → kind_of c ≡ kind.Accepted
        → order_line order ∷ line ∷ more ≡ rest_lines c → ⊥
    no-second (names_fault (doubled first again)) line more e is = cc
    no-second (names_fault (contents at)) line more e is = cc
    no-second (names_fault (position at)) line more e is = cc
    no-second (gives_order order) line more e is = cc
    no-second (gives_cycle k steps rows) line more e is = cc

    none-more : (line : Line)
        → ¬ BeginsCertificate (certificate_lines version (gives_order order) ++ line ∷ [])
    none-more line (w, c, spellable, more, is) =
        let p = kind-behind w (version_line version) c kind.Accepted
        (order_line order ∷ line ∷ more) spellable tt is in no-second c line more p.0 p.1

-- cycles

abbrev some_lines : Version → ℕ → List Step → List Row → List Line
some_lines version k steps rows = certificate_lines version (gives_cycle k steps rows)

-- steps and rows are a cycle of which some last lines may be missing
pub part-of : (k : ℕ) (steps : List Step) → 2 ≤ k → k < 2 ^ 32 → length steps ≤ k → All IsStep steps
    → IsPartOfCycle k steps []
part-of k steps low high few each =
    record {
      low = low;
      high = high;
      few = few;
      each_step = each;
      short = λ _. refl;
      early = λ _. refl;
      each_row = All-nil (IsRow k);
    }

pub whole-part : (k : ℕ) (steps : List Step) (rows : List Row) → 3 ≤ k → k < 2 ^ 32 → length steps ≡ k
    → All IsStep steps → All (IsRow k) rows → IsPartOfCycle k steps rows
whole-part k steps rows low high many each all =
    record {
      low = omega arith;
      high = high;
      few = omega arith;
      each_step = each;
      short = λ two. absurd (omega arith);
      early = λ less. absurd (omega arith);
      each_row = all;
    }

many-lines : (version : Version) (k : ℕ) (steps : List Step) (rows : List Row)
    → length (some_lines version k steps rows) ≡ length rows + (length steps + 2)
many-lines version k steps rows =
    omega (
      arith,
      length-append (map step_line steps) (map row_line rows),
      length-map steps step_line,
      length-map rows row_line,
    )

after-steps : (version : Version) (k : ℕ) (steps : List Step)
    → some_lines version k [] [] ++ map step_line steps ≡ some_lines version k steps []
after-steps version k steps =
    ap (λ (l : List Line). version_line version ∷ (kind_line (kind.Refused k)) ∷ l)
    (sym (append-nil (map step_line steps)))

after-rows : (version : Version) (k : ℕ) (steps : List Step) (rows : List Row)
    → some_lines version k steps [] ++ map row_line rows ≡ some_lines version k steps rows
after-rows version k steps rows =
    ap (λ (l : List Line). version_line version ∷ (kind_line (kind.Refused k)) ∷ (l ++ map row_line rows))
    (append-nil (map step_line steps))

-- after the steps
pub fault-after-steps : (version : Version) (k : ℕ) (steps : List Step) (text rest : List ℕ) (number : ℕ)
    (why : CertCause) → text ≡ text_of (map step_line steps) ++ rest →
    IsFaultBehind (some_lines version k steps []) rest number why
    → IsFaultBehind (some_lines version k [] []) text number why
fault-after-steps version k steps text rest number why is h =
    fault-behind (some_lines version k [] []) (map step_line steps) text rest number why is
    (subst (λ (l : List Line). IsFaultBehind l rest number why) (sym (after-steps version k steps)) h)

pub step-fault : (version : Version) (k : ℕ) (steps : List Step) (text rest : List ℕ) (number : ℕ)
    (why : CertCause) → 2 ≤ k → k < 2 ^ 32 → length steps < k → All IsStep steps → number ≡ length steps + 3 →
    text ≡ text_of (map step_line steps) ++ rest
    → Misses cause.Shape (λ line. step_at (words_of line) ≡ None) rest why
    → IsFaultBehind (some_lines version k [] []) text number why
step-fault version k steps text rest number why low high less each at is misses =
    let part = part-of k steps low high (omega arith) each in
    fault-after-steps version k steps text rest number why is
    (misses-fault (some_lines version k steps []) rest cause.Shape why
    (λ line. step_at (words_of line) ≡ None) number (omega (arith, at, many-lines version k steps []))
    (cycle-begins version k steps [] part) refl
    (λ _. lacks-step version k steps [] part less) (λ line e. no-step version k steps [] line part less e)
    misses)

pub row-fault : (version : Version) (k : ℕ) (steps : List Step) (rows : List Row) (text rest : List ℕ)
    (number : ℕ) (why : CertCause) → 3 ≤ k → k < 2 ^ 32 → length steps ≡ k → All IsStep steps
    → All (IsRow k) rows → number ≡ length rows + k + 3 →
    1 ≤ length rest → text ≡ text_of (map row_line rows) ++ rest
    → Misses cause.Shape (λ line. row_at k (words_of line) ≡ None) rest why
    → IsFaultBehind (some_lines version k steps []) text number why
row-fault version k steps rows text rest number why low high many each all at some is misses =
    let part = whole-part k steps rows low high many each all in
    fault-behind (some_lines version k steps []) (map row_line rows) text rest number why is
    (subst (λ (l : List Line). IsFaultBehind l rest number why) (sym (after-rows version k steps rows))
    (misses-fault (some_lines version k steps rows) rest cause.Shape why
    (λ line. row_at k (words_of line) ≡ None) number
    (omega (arith, at, many, many-lines version k steps rows))
    (cycle-begins version k steps rows part) refl
    (λ empty. absurd (omega (arith, ap length empty, some)))
    (λ line e. no-row version k steps rows line part many e) misses))

-- after a cycle of two steps nothing stands
pub two-fault : (version : Version) (k : ℕ) (steps : List Step) (text : List ℕ) (why : CertCause) → k ≡ 2
    → length steps ≡ k → All IsStep steps → 1 ≤ length text → Misses cause.Shape (λ line. Unit {0}) text why →
    IsFaultBehind (some_lines version k steps []) text 5 why
two-fault version k steps text why two many each some misses =
    let part = part-of k steps (omega (arith, two)) (omega (arith, two)) (omega (arith, many)) each in
    misses-fault (some_lines version k steps []) text cause.Shape why (λ line. Unit {0}) 5
    (omega (arith, two, many, many-lines version k steps [])) (cycle-begins version k steps [] part) refl
    (λ empty. absurd (omega (arith, ap length empty, some)))
    (λ line _. no-more-of-two version k steps [] line part many two) misses
