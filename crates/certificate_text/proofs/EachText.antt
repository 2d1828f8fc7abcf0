-- Each text spells a certificate or has a fault.
use Rattle.std.proofs.Common.{◌≡◌, ℕ, ◌+◌, ◌<◌, ◌≤◌, List, [], ◌∷◌, ◌++◌, length, codes}
use Rattle.std.proofs.Common.{refl, sym, ap, ◌∙◌, arith, Option, Some, None, ◌⊎◌, inl, inr}
use Rattle.std.specs.List.{All}
use Rattle.std.proofs.lemmas.Bool.{cases_lt}
use Rattle.events.specs.Names.{NameBytes, IsName}
use Rattle.events.specs.Operation.{Operation}
use Rattle.specification.specs.Conflict.{Step}
use Rattle.specification.specs.Faults.{doubled, contents, position}
use Rattle.specification.specs.LayerRule.{Row}
use Rattle.specification.specs.Lines.{Line, text_of, IsOneLine, order_line}
use Rattle.specification.specs.CertificateText as format
use Rattle.specification.specs.CertificateText.{Certificate, names_fault, gives_order, gives_cycle}
use Rattle.specification.specs.CertificateText.{certificate_lines, SpellsCertificate, BeginsCertificate}
use Rattle.specification.specs.CertificateText.{IsWholeCertificate, IsFirstCertFault, cause_behind}
use Rattle.specification.specs.CertificateText.{version_line}
use Rattle.specification.specs.Versions.{Version}
use Rattle.format_words.proofs.ByLines.{by-lines, version-of}
use Rattle.format_words.proofs.Places.{is-there}
use Rattle.format_words.specs.Words.{words_of}
use Rattle.certificate_text.specs.declared.kind.Kind.{Kind}
use Rattle.certificate_text.specs.declared.kind.Kind.TheVariants as kind
use Rattle.certificate_text.specs.Reading.{kind_at, order_at, step_at, row_at}
use Rattle.certificate_text.specs.Progress.{IsKind, IsPartOfCycle, kind_line}
use Rattle.certificate_text.proofs.KindLines.{kind-spells}
use Rattle.certificate_text.proofs.StepLines.{order-spells, step-spells}
use Rattle.certificate_text.proofs.RowLines.{row-spells}
use Rattle.certificate_text.proofs.GoingOn.{kind_of, rest_lines, lines-parts, kind-behind, no-kind, no-order}
use Rattle.certificate_text.proofs.GoingOn.{no-step, no-row, no-more-of-two, lacks-step, no-steps, step-more}
use Rattle.certificate_text.proofs.GoingOn.{row-more}
use Rattle.certificate_text.proofs.Begins.{empty-order, headed-begins, kind-begins, order-begins}
use Rattle.certificate_text.proofs.Begins.{cycle-begins, whole-cycle}
use Rattle.certificate_text.proofs.FirstFaults.{wrong-fault, lacking-fault, cut-fault}

-- what right lines say
data Known : Type 0 where
  start : Known
  headed : Version → Known
  of_kind : Version → Kind → Known
  ordered : Version → List NameBytes → Known
  cycle : Version → ℕ → List Step → List Row → Known

abbrev lines_so_far : Known → List Line
lines_so_far start = []
lines_so_far (headed version) = version_line version ∷ []
lines_so_far (of_kind version k) = version_line version ∷ kind_line k ∷ []
lines_so_far (ordered version order) = certificate_lines version (gives_order order)
lines_so_far (cycle version k steps rows) = certificate_lines version (gives_cycle k steps rows)

abbrev IsRight : Known → Type 0
IsRight start = Unit {0}
IsRight (headed version) = Unit {0}
IsRight (of_kind version k) = IsKind k
IsRight (ordered version order) = All IsName order
IsRight (cycle version k steps rows) = IsPartOfCycle k steps rows

begins : (s : Known) → IsRight s → BeginsCertificate (lines_so_far s)
begins start h = empty-order
begins (headed version) h = headed-begins version
begins (of_kind version k) h = kind-begins version k h
begins (ordered version order) h = order-begins version order h
begins (cycle version k steps rows) h = cycle-begins version k steps rows h

-- one line more goes on a spelling, or goes on none
abbrev GoesOn : List Line → Line → Type 0
GoesOn good l =
    (¬ BeginsCertificate (good ++ l ∷ [])) ⊎ ((t : Known) × IsRight t × (lines_so_far t ≡ good ++ l ∷ []))

header-step : (l : Line) → GoesOn [] l
header-step l = elim (version-of version_line l) [
  | inl none ↦ inl (λ (w, c, spellable, more, is). let same : l ≡ version_line w = cc in none w same)
  | inr p ↦ inr (headed p.0, tt, ap (λ (first : Line). first ∷ []) (sym p.1))
]

kind-step : (version : Version) → (l : Line) → GoesOn (version_line version ∷ []) l
kind-step version l = by (kind_at (words_of l)) refl
  where
    by : (o : Option Kind) → kind_at (words_of l) ≡ o → GoesOn (version_line version ∷ []) l
    by None e = inl (no-kind version l e)
    by (Some k) e = let p = kind-spells l k e in
        inr (of_kind version k, p.0, ap (λ (second : Line). version_line version ∷ second ∷ []) (sym p.1))

order-step : (version : Version) → (l : Line) → GoesOn (version_line version ∷ codes "accepted" ∷ []) l
order-step version l = by (order_at (words_of l)) refl
  where
    by : (o : Option (List NameBytes)) → order_at (words_of l) ≡ o
        → GoesOn (version_line version ∷ codes "accepted" ∷ []) l
    by None e = inl (no-order version l e)
    by (Some order) e = let p =
        order-spells l order e in
        inr (
          ordered version order,
          p.0,
          ap (λ (third : Line). version_line version ∷ codes "accepted" ∷ third ∷ []) (sym p.1),
        )

cycle-step : (version : Version) → (k : ℕ) (steps : List Step) (rows : List Row) (l : Line)
    → IsPartOfCycle k steps rows → GoesOn (certificate_lines version (gives_cycle k steps rows)) l
cycle-step version k steps rows l part = elim (cases_lt (length steps) k) [
  | inl less ↦ by-step less (step_at (words_of l)) refl
  | inr all ↦ (let whole : length steps ≡ k = omega (arith, part.few) in elim (cases_lt k 3) [
    | inl short ↦
        inl (no-more-of-two version k steps rows l part whole
        (let is : k ≡ 2 = omega (arith, part.low) in is))
    | inr long ↦ by-row whole long (row_at k (words_of l)) refl
  ])
]
  where
    by-step : length steps < k → (o : Option Step) → step_at (words_of l) ≡ o
        → GoesOn (certificate_lines version (gives_cycle k steps rows)) l
    by-step less None e = inl (no-step version k steps rows l part less e)
    by-step less (Some s) e = let p = step-spells l s e in let q =
        step-more version k steps rows s l part less p.0 p.1 in
        inr (cycle version k (steps ++ s ∷ []) rows, q.0, q.1)

    by-row : length steps ≡ k → 3 ≤ k → (o : Option Row) → row_at k (words_of l) ≡ o
        → GoesOn (certificate_lines version (gives_cycle k steps rows)) l
    by-row whole long None e = inl (no-row version k steps rows l part whole e)
    by-row whole long (Some r) e = let p = row-spells k l r e in
        let q = row-more version k steps rows r l part whole long p.0 p.1 in
        inr (cycle version k steps (rows ++ r ∷ []), q.0, q.1)

-- no line follows a fault's line, nor an order's
none-behind : (version : Version) → (k : Kind) (l : Line) → IsKind k
    → ((c : Certificate) → kind_of c ≡ k → rest_lines c ≡ [])
    → ¬ BeginsCertificate (version_line version ∷ kind_line k ∷ l ∷ [])
none-behind version k l h none (w, c, spellable, more, is) =
    let p = kind-behind w (version_line version) c k (l ∷ more) spellable h is in
    let empty : l ∷ more ≡ [] = p.1 ∙ none c p.0 in
    absurd (cc)

of-doubled : (c : Certificate) (first again : Operation) → kind_of c ≡ kind.Doubled first again
    → rest_lines c ≡ []
of-doubled (names_fault fault) f g e = refl
of-doubled (gives_order order) f g e = absurd (cc)
of-doubled (gives_cycle k steps rows) f g e = absurd (cc)

of-contents : (c : Certificate) (at : Operation) → kind_of c ≡ kind.Contents at → rest_lines c ≡ []
of-contents (names_fault fault) at e = refl
of-contents (gives_order order) at e = absurd (cc)
of-contents (gives_cycle k steps rows) at e = absurd (cc)

of-position : (c : Certificate) (at : Operation) → kind_of c ≡ kind.Position at → rest_lines c ≡ []
of-position (names_fault fault) at e = refl
of-position (gives_order order) at e = absurd (cc)
of-position (gives_cycle k steps rows) at e = absurd (cc)

ordered-rest : (c : Certificate) (a b : Line) (more : List Line) → kind_of c ≡ kind.Accepted
    → a ∷ b ∷ more ≡ rest_lines c → ⊥
ordered-rest (names_fault (doubled first again)) a b more e is = absurd (cc)
ordered-rest (names_fault (contents at)) a b more e is = absurd (cc)
ordered-rest (names_fault (position at)) a b more e is = absurd (cc)
ordered-rest (gives_order order) a b more e is = absurd (cc)
ordered-rest (gives_cycle k steps rows) a b more e is = absurd (cc)

behind-order : (version : Version) → (order : List NameBytes) (l : Line)
    → ¬ BeginsCertificate (certificate_lines version (gives_order order) ++ l ∷ [])
behind-order version order l (w, c, spellable, more, is) =
    let p = kind-behind w (version_line version) c kind.Accepted
    (order_line order ∷ l ∷ more) spellable tt is in ordered-rest c (order_line order) l more p.0 p.1

step : (s : Known) (l : Line) → IsRight s → GoesOn (lines_so_far s) l
step start l h = header-step l
step (headed version) l h = kind-step version l
step (of_kind version (kind.Doubled first again)) l h =
    inl (none-behind version (kind.Doubled first again) l h (λ c. of-doubled c first again))
step (of_kind version (kind.Contents at)) l h =
    inl (none-behind version (kind.Contents at) l h (λ c. of-contents c at))
step (of_kind version (kind.Position at)) l h =
    inl (none-behind version (kind.Position at) l h (λ c. of-position c at))
step (of_kind version kind.Accepted) l h = order-step version l
step (of_kind version (kind.Refused k)) l h = cycle-step version k [] [] l (no-steps k h.0 h.1)
step (ordered version order) l h = inl (behind-order version order l)
step (cycle version k steps rows) l h = cycle-step version k steps rows l h

-- where nothing follows, the lines are whole or one is missing
header-missing : ¬ IsWholeCertificate []
header-missing (w, c, spellable, is) = absurd (cc)

kind-missing : (version : Version) → ¬ IsWholeCertificate (version_line version ∷ [])
kind-missing version (w, c, spellable, is) =
    let parts : version_line version ∷ [] ≡ version_line w ∷ kind_line (kind_of c) ∷ rest_lines c =
    is ∙ lines-parts w c in absurd (cc)

accepted-rest : (c : Certificate) → kind_of c ≡ kind.Accepted → [] ≡ rest_lines c → ⊥
accepted-rest (names_fault (doubled first again)) e is = absurd (cc)
accepted-rest (names_fault (contents at)) e is = absurd (cc)
accepted-rest (names_fault (position at)) e is = absurd (cc)
accepted-rest (gives_order order) e is = absurd (cc)
accepted-rest (gives_cycle k steps rows) e is = absurd (cc)

order-missing : (version : Version) → ¬ IsWholeCertificate (version_line version ∷ codes "accepted" ∷ [])
order-missing version (w, c, spellable, is) = let p =
    kind-behind w (version_line version) c kind.Accepted [] spellable tt is in accepted-rest c p.0 p.1

cycle-end : (version : Version) → (k : ℕ) (steps : List Step) (rows : List Row) → IsPartOfCycle k steps rows →
    IsWholeCertificate (certificate_lines version (gives_cycle k steps rows))
    ⊎ (¬ IsWholeCertificate (certificate_lines version (gives_cycle k steps rows)))
cycle-end version k steps rows part = elim (cases_lt (length steps) k) [
  | inl less ↦ inr (lacks-step version k steps rows part less)
  | inr all ↦ inl (version, gives_cycle k steps rows, whole-cycle k steps rows part all, refl)
]

end : (s : Known) → IsRight s → IsWholeCertificate (lines_so_far s) ⊎ (¬ IsWholeCertificate (lines_so_far s))
end start h = inr header-missing
end (headed version) h = inr (kind-missing version)
end (of_kind version (kind.Doubled first again)) h = inl (version, names_fault (doubled first again), h, refl)
end (of_kind version (kind.Contents at)) h = inl (version, names_fault (contents at), h, refl)
end (of_kind version (kind.Position at)) h = inl (version, names_fault (position at), h, refl)
end (of_kind version kind.Accepted) h = inr (order-missing version)
end (of_kind version (kind.Refused k)) h = cycle-end version k [] [] (no-steps k h.0 h.1)
end (ordered version order) h = inl (version, gives_order order, h, refl)
end (cycle version k steps rows) h = cycle-end version k steps rows h

abbrev HasFault : List ℕ → Type 0
HasFault text = (line : ℕ) × (cause : format.CertCause) × IsFirstCertFault text line cause

abbrev IsSpelled : List ℕ → Type 0
IsSpelled text = (version : Version) × (c : Certificate) × SpellsCertificate text version c

at-line : (text : List ℕ) (s : Known) (l : Line) (behind : List ℕ) → IsRight s → IsOneLine l
    → text ≡ text_of (lines_so_far s) ++ (l ++ 10 ∷ behind)
    → HasFault text ⊎ ((t : Known) × IsRight t × (lines_so_far t ≡ lines_so_far s ++ l ∷ []))
at-line text s l behind right no_lf is = let good = lines_so_far s in elim (step s l right) [
  | inl wrong ↦
      inl (
        length good + 1,
        cause_behind good,
        wrong-fault text (length good + 1) good l (Some (cause_behind good))
            (is-there BeginsCertificate text (length good + 1) good l (l ++ 10 ∷ behind) behind is refl no_lf
            refl (begins s right))
            (refl, wrong),
      )
  | inr t ↦ inr t
]

at-cut : (text : List ℕ) (s : Known) (rest : Line) → IsRight s → 1 ≤ length rest → IsOneLine rest
    → text ≡ text_of (lines_so_far s) ++ rest → HasFault text
at-cut text s rest right some no_lf is = let good = lines_so_far s in (
  length good + 1,
  format.cut,
  cut-fault text (length good + 1) good rest some no_lf is refl (begins s right),
)

at-end : (text : List ℕ) (s : Known) → IsRight s → text ≡ text_of (lines_so_far s)
    → IsSpelled text ⊎ HasFault text
at-end text s right is = let good = lines_so_far s in elim (end s right) [
  | inl whole ↦ inl (whole.0, whole.1, (whole.2, is ∙ ap text_of whole.3))
  | inr not ↦
      inr (
        length good + 1,
        cause_behind good,
        lacking-fault text (length good + 1) good (Some (cause_behind good)) is refl (begins s right)
            (refl, not),
      )
]

pub each-text : (text : List ℕ) → IsSpelled text ⊎ HasFault text
each-text text =
    by-lines lines_so_far IsRight text (IsSpelled text) (HasFault text) (at-line text) (at-cut text)
    (at-end text) start tt refl
