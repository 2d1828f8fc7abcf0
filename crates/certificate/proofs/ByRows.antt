-- A certificate is what its verdict says, with its rows; and its text is that without rows and the rows'
-- lines.
use Rattle.std.proofs.Common.{◌≡◌, ℕ, ◌≤◌, List, [], ◌∷◌, ◌++◌, map, codes, decimal, refl, sym, ap, subst}
use Rattle.std.proofs.Common.{◌∙◌, arith}
use Rattle.std.proofs.lemmas.Grind.{flat_map-append}
use Rattle.std.proofs.lemmas.List.{append-nil, flat_map_more, map_push}
use Rattle.std.proofs.lemmas.List.Elements.{All-nil}
use Rattle.events.specs.Names.{NameBytes}
use Rattle.events.specs.History.{History, IsLegal}
use Rattle.specification.specs.Lines.{Line, text_of}
use Rattle.specification.specs.LayerRule.{Row, row_responses}
use Rattle.specification.specs.Responses.{Responses, responses_of}
use Rattle.specification.specs.Verdict.{Verdict, IsVerdict, faulty, accepted, refused}
use Rattle.specification.specs.Faults.{IsSound}
use Rattle.specification.specs.Versions.{two}
use Rattle.specification.specs.CertificateText.{IsRow, IsSpellable, certificate_text, row_line, step_line}
use Rattle.specification.specs.CertificateText.{version_line}
use Rattle.specification.specs.ExactRows.{IsExactRow, AreExactRows, IsCertificateOf}
use Rattle.specification.proofs.VerdictsDecide.{verdicts_decide}
use Rattle.certificate_text.proofs.VerdictCertificates.{certificates_are_valid, refusal-spellable}
use Rattle.order_graph.specs.Covers.{IsCoveredBy}
use Rattle.certificate.specs.ByRows.{AppendsRows, HasNoRows, HasRows, IsTextOfCertificate, certificate_with}
use Rattle.certificate.proofs.CoveredRows.{covered-rows}
use Rattle.certificate.proofs.ExactRows.{exact_rows_push, certificate_of_two, certificate_of_more}

pub without_rows : (h : History) (v : Verdict) → IsLegal h → IsVerdict h v → HasNoRows v
    → IsCertificateOf two h v (certificate_with [] v)
without_rows h (faulty fault) legal is none = refl
without_rows h (accepted order) legal is none = refl
without_rows h (refused k steps) legal is none =
    certificate_of_two two h k steps (verdicts_decide h (refused k steps) legal is).1 none

pub with_exact_rows : (h : History) (v : Verdict) (k : ℕ) (rows : List Row) → HasRows v k
    → AreExactRows two (responses_of h) k ((responses_of h).elements) rows
    → IsCertificateOf two h v (certificate_with rows v)
with_exact_rows h (faulty fault) k rows has are = absurd has
with_exact_rows h (accepted order) k rows has are = absurd has
with_exact_rows h (refused n steps) k rows has are =
    let three : 3 ≤ n = subst (λ m. 3 ≤ m) (sym has.0) has.1 in
    certificate_of_more two h n steps rows three
    (subst (λ m. AreExactRows two (responses_of h) m ((responses_of h).elements) rows) (sym has.0) are)

-- what is written of a verdict before the rows has a spelling
pub spellable_without_rows : (h : History) (v : Verdict) → IsLegal h → IsVerdict h v
    → IsSpellable (certificate_with [] v)
spellable_without_rows h (faulty fault) legal is =
    (certificates_are_valid two h (faulty fault) (certificate_with [] (faulty fault)) legal is refl).1
spellable_without_rows h (accepted order) legal is =
    (certificates_are_valid two h (accepted order) (certificate_with [] (accepted order)) legal is refl).1
spellable_without_rows h (refused k steps) legal is =
    refusal-spellable two h legal k steps [] is (λ _. refl) (All-nil (IsRow k))

-- the sources' elements come with a sound recording
pub sound_with_rows : (h : History) (v : Verdict) (k : ℕ) → HasRows v k → IsVerdict h v → IsSound h
sound_with_rows h (faulty fault) k has is = absurd has
sound_with_rows h (accepted order) k has is = absurd has
sound_with_rows h (refused n steps) k has is = is.0

pub some_rows : (v : Verdict) (k : ℕ) → HasRows v k → 1 ≤ k
some_rows (faulty fault) k has = absurd has
some_rows (accepted order) k has = absurd has
some_rows (refused n steps) k has = omega (arith, has.1)

-- the rows' lines behind the text without rows
pub text_with_rows : (v : Verdict) (k : ℕ) (rows : List Row) → HasRows v k
    → certificate_text two (certificate_with [] v) ++ text_of (map row_line rows)
    ≡ certificate_text two (certificate_with rows v)
text_with_rows (faulty fault) k rows has = absurd has
text_with_rows (accepted order) k rows has = absurd has
text_with_rows (refused n steps) k rows has =
    let first : Line = version_line two in
    let second : Line = codes "refused " ++ decimal n in
    sym (flat_map-append (λ (line : Line). line ++ 10 ∷ []) (first ∷ second ∷ (map step_line steps ++ []))
    (map row_line rows))
    ∙ ap (λ (lines : List Line). text_of (first ∷ second ∷ (lines ++ map row_line rows)))
    (append-nil (map step_line steps))

-- the lines of one row more
pub rows_appended : (v : Responses) (k : ℕ) (sources : List NameBytes) (old text new : List ℕ)
    (source : NameBytes) (row : Row) → AppendsRows v k sources old text
    → IsExactRow (row_responses two v source) k source row → new ≡ text ++ (row_line row ++ 10 ∷ [])
    → AppendsRows v k (sources ++ source ∷ []) old new
rows_appended v k sources old text new source row so_far is added = (
  so_far.0 ++ row ∷ [],
  exact_rows_push two v k sources so_far.0 source row so_far.1 is,
  added ∙ ap (λ t. t ++ (row_line row ++ 10 ∷ [])) so_far.2
      ∙ flat_map_more (λ (line : Line). line ++ 10 ∷ []) old (map row_line so_far.0) (row_line row)
      ∙ ap (λ (lines : List Line). old ++ text_of lines) (sym (map_push row_line so_far.0 row)),
)

-- the text of a certificate without rows, and that of one whose rows' lines were added
pub is_text_without : (h : History) (v : Verdict) (text : List ℕ) → IsLegal h → IsVerdict h v → HasNoRows v
    → text ≡ certificate_text two (certificate_with [] v)
    → IsTextOfCertificate h v text
is_text_without h v text legal is none made = (certificate_with [] v, without_rows h v legal is none, made)

pub is_text_with : (h : History) (v : Verdict) (w : Responses) (k : ℕ) (text new : List ℕ) → HasRows v k
    → IsCoveredBy (responses_of h) w
    → text ≡ certificate_text two (certificate_with [] v) → AppendsRows w k w.elements text new
    → IsTextOfCertificate h v new
is_text_with h v w k text new has cover made added = (
  certificate_with added.0 v,
  with_exact_rows h v k added.0 has (covered-rows (responses_of h) w cover k added.0 added.1),
  added.2 ∙ ap (λ t. t ++ text_of (map row_line added.0)) made ∙ text_with_rows v k added.0 has,
)
