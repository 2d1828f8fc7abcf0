-- Lines whose reading takes memory.
use Rattle.std.proofs.Common.{◌≡◌, ℕ, ◌<◌, ◌≤◌, List, [], ◌∷◌, ◌++◌, length, codes, Option, Some, None}
use Rattle.std.proofs.Common.{refl, sym, ap, ◌∙◌, subst, arith}
use Rattle.std.proofs.lemmas.List.Elements.{All-nil}
use Rattle.std.proofs.lemmas.Option.{same_Some}
use Rattle.events.specs.Names.{NameBytes, IsName}
use Rattle.specification.specs.Conflict.{Step}
use Rattle.specification.specs.LayerRule.{Row}
use Rattle.specification.specs.Lines.{Line}
use Rattle.specification.specs.CertificateText.{gives_order, gives_cycle, certificate_lines, step_line}
use Rattle.specification.specs.CertificateText.{row_line, BeginsCertificate, version_line}
use Rattle.specification.specs.Versions.{Version}
use Rattle.format_words.specs.Words.{words_of}
use Rattle.format_words.specs.Reading.{GivesOne, HasSome}
use Rattle.certificate_text.specs.Progress.{IsPartOfCycle}
use Rattle.certificate_text.specs.Place.{TakesMemory}
use Rattle.certificate_text.specs.Reading.{order_at, step_at, row_at}
use Rattle.certificate_text.proofs.Begins.{cycle-begins}
use Rattle.certificate_text.proofs.GoingOn.{step-more, row-more}
use Rattle.certificate_text.proofs.StepLines.{order-spells, order-again, step-spells}
use Rattle.certificate_text.proofs.RowLines.{row-spells}

-- the line of an order with names
no-empty-order : (line : Line) (order : List NameBytes) → HasSome order
    → order_at (words_of line) ≡ Some order → line ≡ codes "order :" → ⊥
no-empty-order line order some e is =
    let none : [] ≡ order =
    same_Some [] order (sym (order-again [] (All-nil IsName))
    ∙ ap (λ (l : Line). order_at (words_of l)) (sym is) ∙ e) in
    let bad : 1 ≤ 0 = subst (λ (names : List NameBytes). 1 ≤ length names) (sym none) some in
    absurd (omega arith)

pub order-takes : (version : Version) → (line : Line) → GivesOne HasSome (order_at (words_of line))
    → TakesMemory (version_line version ∷ codes "accepted" ∷ []) line
order-takes version line some = go (order_at (words_of line)) refl some
  where
    go : (o : Option (List NameBytes)) → order_at (words_of line) ≡ o → GivesOne HasSome o
        → TakesMemory (version_line version ∷ codes "accepted" ∷ []) line
    go None e h = absurd h
    go (Some order) e h =
        let p = order-spells line order e in (
          omega arith,
          (
            version,
            gives_order order,
            p.0,
            [],
            ap (λ (l : Line). version_line version ∷ codes "accepted" ∷ l ∷ []) p.1,
          ),
          no-empty-order line order h e,
        )

abbrev first-byte : List ℕ → ℕ
first-byte [] = 0
first-byte (b ∷ bs) = b

step-is-no-order : (s : Step) → step_line s ≡ codes "order :" → ⊥
step-is-no-order s e = let bytes : ◌≡◌ {A = ℕ} 115 111 = ap first-byte e in absurd (omega (arith, bytes))

row-is-no-order : (r : Row) → row_line r ≡ codes "order :" → ⊥
row-is-no-order r e = let bytes : ◌≡◌ {A = ℕ} 108 111 = ap first-byte e in absurd (omega (arith, bytes))

two-lines : (version : Version) → (k : ℕ) (steps : List Step) (rows : List Row)
    → 2 ≤ length (certificate_lines version (gives_cycle k steps rows))
two-lines version k steps rows = omega arith

-- the line of a step that is missing
pub step-takes : (version : Version) → (k : ℕ) (steps : List Step) (rows : List Row) (s : Step) (line : Line)
    → IsPartOfCycle k steps rows → length steps < k → step_at (words_of line) ≡ Some s
    → TakesMemory (certificate_lines version (gives_cycle k steps rows)) line
step-takes version k steps rows s line part less e =
    let p = step-spells line s e in
    let more = step-more version k steps rows s line part less p.0 p.1 in (
      two-lines version k steps rows,
      subst BeginsCertificate more.1 (cycle-begins version k (steps ++ s ∷ []) rows more.0),
      (λ is. step-is-no-order s (sym p.1 ∙ is)),
    )

-- the line of a row, after all steps
pub row-takes : (version : Version) → (k : ℕ) (steps : List Step) (rows : List Row) (r : Row) (line : Line)
    → IsPartOfCycle k steps rows → length steps ≡ k → 3 ≤ k → row_at k (words_of line) ≡ Some r
    → TakesMemory (certificate_lines version (gives_cycle k steps rows)) line
row-takes version k steps rows r line part whole long e =
    let p = row-spells k line r e in
    let more = row-more version k steps rows r line part whole long p.0 p.1 in (
      two-lines version k steps rows,
      subst BeginsCertificate more.1 (cycle-begins version k steps (rows ++ r ∷ []) more.0),
      (λ is. row-is-no-order r (sym p.1 ∙ is)),
    )

pub some-row-takes : (version : Version) → (k : ℕ) (steps : List Step) (rows : List Row) (line : Line)
    → IsPartOfCycle k steps rows → length steps ≡ k → 3 ≤ k
    → GivesOne (λ row. Unit {0}) (row_at k (words_of line))
    → TakesMemory (certificate_lines version (gives_cycle k steps rows)) line
some-row-takes version k steps rows line part whole long some = go (row_at k (words_of line)) refl some
  where
    go : (o : Option Row) → row_at k (words_of line) ≡ o → GivesOne (λ row. Unit {0}) o
        → TakesMemory (certificate_lines version (gives_cycle k steps rows)) line
    go None e h = absurd h
    go (Some r) e h = row-takes version k steps rows r line part whole long e
