-- Right lines begin a spelling.
use Rattle.std.proofs.Common.{◌≡◌, ℕ, ◌-◌, ◌<◌, ◌≤◌, List, [], ◌∷◌, ◌++◌, length, map, replicate, codes}
use Rattle.std.proofs.Common.{decimal, refl, sym, ap, ◌∙◌, arith, inl, inr, length-append}
use Rattle.std.specs.List.{All}
use Rattle.std.proofs.lemmas.Bool.{cases_lt}
use Rattle.std.proofs.lemmas.List.{append-nil, length-replicate, map-append}
use Rattle.std.proofs.lemmas.List.Elements.{All-nil, All-append, All-replicate}
use Rattle.events.specs.Names.{NameBytes, IsName}
use Rattle.specification.specs.Conflict.{Step}
use Rattle.specification.specs.Faults.{doubled, contents, position}
use Rattle.specification.specs.LayerRule.{Row}
use Rattle.specification.specs.Lines.{Line, order_line}
use Rattle.specification.specs.CertificateText.{names_fault, gives_order, gives_cycle, certificate_lines}
use Rattle.specification.specs.CertificateText.{step_line, IsStep, IsRow, IsSpellable, BeginsCertificate}
use Rattle.specification.specs.CertificateText.{version_line}
use Rattle.specification.specs.Versions.{Version, one}
use Rattle.certificate_text.specs.CertificateOf.{version_in}
use Rattle.certificate_text.specs.declared.kind.Kind.{Kind}
use Rattle.certificate_text.specs.declared.kind.Kind.TheVariants as kind
use Rattle.certificate_text.specs.declared.progress.Progress.{Progress}
use Rattle.certificate_text.specs.declared.progress.Progress.TheVariants as progress
use Rattle.certificate_text.specs.Progress.{IsKind, IsPartOfCycle, IsRight, good, kind_line}
use Rattle.certificate_text.proofs.GoingOn.{no-steps}

abbrev some_step : Step
some_step = record { from = 97 ∷ []; to = 97 ∷ []; shown = record { replica = 0; n = 1 } }

some-name : IsName (97 ∷ [])
some-name = record { some_byte = omega arith; few_bytes = omega arith; each_byte = refl }

some-step : IsStep some_step
some-step = (some-name, some-name, (omega arith, omega arith, omega arith))

-- no step is missing
pub whole-cycle : (k : ℕ) (steps : List Step) (rows : List Row) → IsPartOfCycle k steps rows
    → k ≤ length steps → IsSpellable (gives_cycle k steps rows)
whole-cycle k steps rows part all = (
  part.low,
  part.high,
  (let n : length steps ≡ k = omega (arith, part.few) in n),
  part.each_step,
  part.short,
  part.each_row,
)

pub cycle-begins : (version : Version) → (k : ℕ) (steps : List Step) (rows : List Row)
    → IsPartOfCycle k steps rows → BeginsCertificate (certificate_lines version (gives_cycle k steps rows))
cycle-begins version k steps rows part = elim (cases_lt (length steps) k) [
  | inl less ↦ with-more rows part less
  | inr whole ↦ (
    version,
    gives_cycle k steps rows,
    whole-cycle k steps rows part whole,
    [],
    append-nil (certificate_lines version (gives_cycle k steps rows)),
  )
]
  where
    with-more : (rows : List Row) → IsPartOfCycle k steps rows → length steps < k
        → BeginsCertificate (certificate_lines version (gives_cycle k steps rows))
    with-more (r ∷ rows) part less = let none = part.early less in absurd (cc)
    with-more [] part less =
        let more : List Step = replicate (k - length steps) some_step in
        let many : length (steps ++ more) ≡ k =
        omega (arith, length-append steps more, length-replicate (k - length steps) some_step) in
        let lines : (map step_line steps ++ []) ++ map step_line more ≡ map step_line (steps ++ more) ++ [] =
        ap (λ (l : List Line). l ++ map step_line more) (append-nil (map step_line steps))
        ∙ sym (map-append step_line steps more) ∙ sym (append-nil (map step_line (steps ++ more))) in (
          version,
          gives_cycle k (steps ++ more) [],
          (
            part.low,
            part.high,
            many,
            All-append IsStep steps more part.each_step
                (All-replicate IsStep (k - length steps) some_step some-step),
            (λ _. refl),
            All-nil (IsRow k),
          ),
          map step_line more,
          ap (λ (l : List Line). version_line version ∷ (codes "refused " ++ decimal k) ∷ l) lines,
        )

no-names : All IsName []
no-names = All-nil IsName

pub empty-order : BeginsCertificate []
empty-order = (one, gives_order [], no-names, certificate_lines one (gives_order []), refl)

pub headed-begins : (version : Version) → BeginsCertificate (version_line version ∷ [])
headed-begins version = (version, gives_order [], no-names, codes "accepted" ∷ order_line [] ∷ [], refl)

pub kind-begins : (version : Version) (k : Kind) → IsKind k
    → BeginsCertificate (version_line version ∷ kind_line k ∷ [])
kind-begins version (kind.Doubled first again) h = (version, names_fault (doubled first again), h, [], refl)
kind-begins version (kind.Contents at) h = (version, names_fault (contents at), h, [], refl)
kind-begins version (kind.Position at) h = (version, names_fault (position at), h, [], refl)
kind-begins version kind.Accepted h = (version, gives_order [], no-names, order_line [] ∷ [], refl)
kind-begins version (kind.Refused k) h = cycle-begins version k [] [] (no-steps k h.0 h.1)

pub order-begins : (version : Version) (order : List NameBytes) → All IsName order
    → BeginsCertificate (certificate_lines version (gives_order order))
order-begins version order h = (version, gives_order order, h, [], refl)

pub right-begins : (p : Progress) → IsRight p → BeginsCertificate (good p)
right-begins progress.Start h = empty-order
right-begins (progress.Headed version) h = headed-begins (version_in version)
right-begins (progress.Kind version k) h = kind-begins (version_in version) k h
right-begins (progress.Ordered version order) h = order-begins (version_in version) order h
right-begins (progress.Cycle c) h = cycle-begins (version_in c.version) c.k c.steps.items c.rows.items h
