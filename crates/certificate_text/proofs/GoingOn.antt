-- Which lines go on a spelling after right lines, and which go on none.
use Rattle.std.proofs.Common.{◌≡◌, ℕ, ◌<◌, ◌≤◌, ◌^◌, List, [], ◌∷◌, ◌++◌, length, map, codes, decimal, None}
use Rattle.std.proofs.Common.{refl, sym, ap, ◌∙◌, subst, arith, append_assoc, length-append}
use Rattle.std.specs.List.{All}
use Rattle.std.proofs.lemmas.List.{append-nil, map_push}
use Rattle.std.proofs.lemmas.List.Elements.{All-head, All-tail, All-nil, All-push}
use Rattle.std.proofs.lemmas.Option.{none-some}
use Rattle.events.specs.Names.{NameBytes, IsName}
use Rattle.specification.specs.Conflict.{Step}
use Rattle.specification.specs.Faults.{doubled, contents, position}
use Rattle.specification.specs.LayerRule.{Row}
use Rattle.specification.specs.Lines.{Line, order_line}
use Rattle.specification.specs.CertificateText.{Certificate, names_fault, gives_order, gives_cycle}
use Rattle.specification.specs.CertificateText.{certificate_lines, step_line, row_line, IsSpellable, IsStep}
use Rattle.specification.specs.CertificateText.{IsRow, BeginsCertificate, IsWholeCertificate, version_line}
use Rattle.specification.specs.Versions.{Version}
use Rattle.format_words.specs.Words.{words_of}
use Rattle.format_words.proofs.LineLists.{line-there, all-of}
use Rattle.certificate_text.specs.declared.kind.Kind.{Kind}
use Rattle.certificate_text.specs.declared.kind.Kind.TheVariants as kind
use Rattle.certificate_text.specs.Reading.{kind_at, order_at, step_at, row_at}
use Rattle.certificate_text.specs.Progress.{IsKind, IsPartOfCycle, kind_line}
use Rattle.certificate_text.proofs.KindLines.{kind-again, one-kind}
use Rattle.certificate_text.proofs.StepLines.{order-again, step-again}
use Rattle.certificate_text.proofs.RowLines.{row-again}

abbrev pub kind_of : Certificate → Kind
kind_of (names_fault (doubled first again)) = kind.Doubled first again
kind_of (names_fault (contents at)) = kind.Contents at
kind_of (names_fault (position at)) = kind.Position at
kind_of (gives_order order) = kind.Accepted
kind_of (gives_cycle k steps rows) = kind.Refused k

abbrev pub rest_lines : Certificate → List Line
rest_lines (names_fault fault) = []
rest_lines (gives_order order) = order_line order ∷ []
rest_lines (gives_cycle k steps rows) = map step_line steps ++ map row_line rows

pub lines-parts : (version : Version) (c : Certificate) → certificate_lines version c
    ≡ version_line version ∷ kind_line (kind_of c) ∷ rest_lines c
lines-parts version (names_fault (doubled first again)) = refl
lines-parts version (names_fault (contents at)) = refl
lines-parts version (names_fault (position at)) = refl
lines-parts version (gives_order order) = refl
lines-parts version (gives_cycle k steps rows) = refl

pub kind-good : (c : Certificate) → IsSpellable c → IsKind (kind_of c)
kind-good (names_fault (doubled first again)) h = h
kind-good (names_fault (contents at)) h = h
kind-good (names_fault (position at)) h = h
kind-good (gives_order order) h = tt
kind-good (gives_cycle k steps rows) h = (h.0, h.1)

second-line : (version : Version) (c : Certificate) (first line : Line) (more : List Line)
    → first ∷ line ∷ more ≡ certificate_lines version c → (line ≡ kind_line (kind_of c))
    × (more ≡ rest_lines c)
second-line version c first line more is =
    let parts : first ∷ line ∷ more ≡ version_line version ∷ kind_line (kind_of c) ∷ rest_lines c =
    is ∙ lines-parts version c in (cc parts, cc parts)

-- a line of which no kind is read is no second line
pub no-kind : (version : Version) → (line : Line) → kind_at (words_of line) ≡ None
    → ¬ BeginsCertificate (version_line version ∷ line ∷ [])
no-kind version line e (w, c, spellable, more, is) =
    let second = (second-line w c (version_line version) line more is).0 in
    none-some (kind_of c) (sym e ∙ ap (λ l. kind_at (words_of l)) second
    ∙ kind-again (kind_of c) (kind-good c spellable))

-- the second line says the kind
pub kind-behind : (version : Version) (first : Line) (c : Certificate) (k : Kind) (more : List Line)
    → IsSpellable c → IsKind k → first ∷ kind_line k ∷ more ≡ certificate_lines version c
    → (kind_of c ≡ k) × (more ≡ rest_lines c)
kind-behind version first c k more spellable h is =
    let p = second-line version c first (kind_line k) more is in
    (one-kind (kind_of c) k (kind-good c spellable) h (sym p.0), p.1)

third-order : (c : Certificate) (line : Line) (more : List Line) → IsSpellable c → kind_of c ≡ kind.Accepted
    → line ∷ more ≡ rest_lines c → (order : List NameBytes) × All IsName order × (line ≡ order_line order)
third-order (names_fault (doubled first again)) line more h k is = absurd (cc)
third-order (names_fault (contents at)) line more h k is = absurd (cc)
third-order (names_fault (position at)) line more h k is = absurd (cc)
third-order (gives_order order) line more h k is = (order, h, cc)
third-order (gives_cycle n steps rows) line more h k is = absurd (cc)

-- a line of which no order is read goes on no acceptance
pub no-order : (version : Version) → (line : Line) → order_at (words_of line) ≡ None
    → ¬ BeginsCertificate (version_line version ∷ codes "accepted" ∷ line ∷ [])
no-order version line e (w, c, spellable, more, is) =
    let p = kind-behind w (version_line version) c kind.Accepted (line ∷ more) spellable tt is in
    let q = third-order c line more spellable p.0 p.1 in
    none-some q.0 (sym e ∙ ap (λ l. order_at (words_of l)) q.2 ∙ order-again q.0 q.1)

-- cycles

-- the certificates of a cycle of k steps
record Cycles (k : ℕ) (lines : List Line) : Type 0 where
  steps : List Step
  rows : List Row
  spellable : IsSpellable (gives_cycle k steps rows)
  is : lines ≡ map step_line steps ++ map row_line rows

of-cycle : (c : Certificate) (k : ℕ) (lines : List Line) → IsSpellable c → kind_of c ≡ kind.Refused k
    → lines ≡ rest_lines c → Cycles k lines
of-cycle (names_fault (doubled first again)) k lines h e is = absurd (cc)
of-cycle (names_fault (contents at)) k lines h e is = absurd (cc)
of-cycle (names_fault (position at)) k lines h e is = absurd (cc)
of-cycle (gives_order order) k lines h e is = absurd (cc)
of-cycle (gives_cycle n steps rows) k lines h e is =
    let same : n ≡ k = cc in
    record {
      steps = steps;
      rows = rows;
      spellable = subst (λ m. IsSpellable (gives_cycle m steps rows)) same h;
      is = is;
    }

cycle-behind : (version : Version) → (k : ℕ) (steps : List Step) (rows : List Row) (line : Line)
    → IsPartOfCycle k steps rows
    → BeginsCertificate (certificate_lines version (gives_cycle k steps rows) ++ line ∷ []) →
    (more : List Line) × Cycles k (((map step_line steps ++ map row_line rows) ++ line ∷ []) ++ more)
cycle-behind version k steps rows line part (w, c, spellable, more, is) =
    let p = kind-behind w (version_line version) c (kind.Refused k)
    (((map step_line steps ++ map row_line rows) ++ line ∷ []) ++ more) spellable
    (part.low, part.high) is in
    (more, of-cycle c k (((map step_line steps ++ map row_line rows) ++ line ∷ []) ++ more) spellable p.0 p.1)

module _ {X : Type 0} (f : X → Line) (P : X → Type 0) where
  -- the line after a prefix of such lines is one of them
  there : (xs ys : List X) (line : Line) (more rest : List Line) → length xs < length ys → All P ys
      → map f xs ++ line ∷ more ≡ map f ys ++ rest → (y : X) × P y × (line ≡ f y)
  there xs [] line more rest h all is = absurd (omega arith)
  there [] (y ∷ ys) line more rest h all is = (y, All-head P y ys all, cc)
  there (x ∷ xs) (y ∷ ys) line more rest h all is =
      let tail : map f xs ++ line ∷ more ≡ map f ys ++ rest = cc in
      there xs ys line more rest (omega arith) (All-tail P y ys all) tail

  among : (xs ys : List X) (line : Line) (more : List Line) → All P ys → map f xs ++ line ∷ more ≡ map f ys
      → (y : X) × P y × (line ≡ f y)
  among xs ys line more all is =
      let p = line-there f ys (map f xs) more line (sym is) in
      (p.2, (all-of P p.0 p.1 p.2 (subst (All P) p.3 all)).1, p.5)

  behind-as-many : (xs ys : List X) (more rest : List Line) → length xs ≡ length ys
      → map f xs ++ more ≡ map f ys ++ rest → more ≡ rest
  behind-as-many [] [] more rest h is = is
  behind-as-many [] (y ∷ ys) more rest h is = absurd (omega arith)
  behind-as-many (x ∷ xs) [] more rest h is = absurd (omega arith)
  behind-as-many (x ∷ xs) (y ∷ ys) more rest h is =
      let tail : map f xs ++ more ≡ map f ys ++ rest = cc in behind-as-many xs ys more rest (omega arith) tail

-- a line of which no step is read, where a step is missing
pub no-step : (version : Version) → (k : ℕ) (steps : List Step) (rows : List Row) (line : Line)
    → IsPartOfCycle k steps rows → length steps < k → step_at (words_of line) ≡ None →
    ¬ BeginsCertificate (certificate_lines version (gives_cycle k steps rows) ++ line ∷ [])
no-step version k steps (r ∷ rows) line part less e begins = let none = part.early less in absurd (cc)
no-step version k steps [] line part less e begins =
    let p = cycle-behind version k steps [] line part begins in
    let lines : map step_line steps ++ line ∷ p.0 ≡ map step_line p.1.steps ++ map row_line p.1.rows =
    sym (append_assoc (map step_line steps) (line ∷ []) p.0)
    ∙ ap (λ (l : List Line). (l ++ line ∷ []) ++ p.0) (sym (append-nil (map step_line steps))) ∙ p.1.is in
    let found =
    there step_line IsStep steps p.1.steps line p.0 (map row_line p.1.rows)
    (omega (arith, p.1.spellable.2)) p.1.spellable.3 lines in
    none-some found.0 (sym e ∙ ap (λ l. step_at (words_of l)) found.2 ∙ step-again found.0 found.1)

rows-behind : (version : Version) → (k : ℕ) (steps : List Step) (rows : List Row) (line : Line)
    → IsPartOfCycle k steps rows → length steps ≡ k
    → BeginsCertificate (certificate_lines version (gives_cycle k steps rows) ++ line ∷ []) →
    (more : List Line) × (all : List Row) × (k ≡ 2 → all ≡ []) × All (IsRow k) all
    × (map row_line rows ++ line ∷ more ≡ map row_line all)
rows-behind version k steps rows line part whole begins =
    let p = cycle-behind version k steps rows line part begins in
    let lines : map step_line steps ++ (map row_line rows ++ line ∷ p.0)
    ≡ map step_line p.1.steps ++ map row_line p.1.rows =
    sym (ap (λ (l : List Line). l ++ p.0) (append_assoc (map step_line steps) (map row_line rows) (line ∷ []))
    ∙ append_assoc (map step_line steps) (map row_line rows ++ line ∷ []) p.0
    ∙ ap (λ (l : List Line). map step_line steps ++ l) (append_assoc (map row_line rows) (line ∷ []) p.0))
    ∙ p.1.is in (
      p.0,
      p.1.rows,
      p.1.spellable.4,
      p.1.spellable.5,
      behind-as-many step_line IsStep steps p.1.steps
          (map row_line rows ++ line ∷ p.0) (map row_line p.1.rows) (omega (arith, p.1.spellable.2)) lines,
    )

-- a line of which no row is read, after all steps
pub no-row : (version : Version) → (k : ℕ) (steps : List Step) (rows : List Row) (line : Line)
    → IsPartOfCycle k steps rows → length steps ≡ k → row_at k (words_of line) ≡ None →
    ¬ BeginsCertificate (certificate_lines version (gives_cycle k steps rows) ++ line ∷ [])
no-row version k steps rows line part whole e begins =
    let p = rows-behind version k steps rows line part whole begins in
    let found = among row_line (IsRow k) rows p.1 line p.0 p.3 p.4 in
    none-some found.0 (sym e ∙ ap (λ l. row_at k (words_of l)) found.2 ∙ row-again k found.0 found.1)

some-left : (rows : List Row) (line : Line) (more : List Line) → map row_line rows ++ line ∷ more ≡ [] → ⊥
some-left [] line more is = cc
some-left (r ∷ rows) line more is = cc

-- a cycle of two steps has no rows
pub no-more-of-two : (version : Version) → (k : ℕ) (steps : List Step) (rows : List Row) (line : Line)
    → IsPartOfCycle k steps rows → length steps ≡ k → k ≡ 2
    → ¬ BeginsCertificate (certificate_lines version (gives_cycle k steps rows) ++ line ∷ [])
no-more-of-two version k steps rows line part whole two begins =
    let p = rows-behind version k steps rows line part whole begins in
    some-left rows line p.0 (p.4 ∙ ap (λ (l : List Row). map row_line l) (p.2 two))

-- a step is missing
pub lacks-step : (version : Version) → (k : ℕ) (steps : List Step) (rows : List Row)
    → IsPartOfCycle k steps rows → length steps < k
    → ¬ IsWholeCertificate (certificate_lines version (gives_cycle k steps rows))
lacks-step version k steps (r ∷ rows) part less whole = let none = part.early less in absurd (cc)
lacks-step version k steps [] part less (w, c, spellable, is) =
    let p = kind-behind w (version_line version) c (kind.Refused k) (map step_line steps ++ []) spellable
    (part.low, part.high) is in
    let all = of-cycle c k (map step_line steps ++ []) spellable p.0 p.1 in
    too-few steps all.steps (map row_line all.rows) (omega (arith, all.spellable.2)) all.is
  where
    too-few : (xs ys : List Step) (rest : List Line) → length xs < length ys
        → map step_line xs ++ [] ≡ map step_line ys ++ rest → ⊥
    too-few xs [] rest h is = absurd (omega arith)
    too-few [] (y ∷ ys) rest h is = cc
    too-few (x ∷ xs) (y ∷ ys) rest h is = let tail : map step_line xs ++ [] ≡ map step_line ys ++ rest = cc in
        too-few xs ys rest (omega arith) tail

pub no-steps : (k : ℕ) → 2 ≤ k → k < 2 ^ 32 → IsPartOfCycle k [] []
no-steps k low high = record {
  low = low;
  high = high;
  few = omega arith;
  each_step = All-nil IsStep;
  short = λ _. refl;
  early = λ _. refl;
  each_row = All-nil (IsRow k);
}

-- one step more is one line more
pub step-more : (version : Version) → (k : ℕ) (steps : List Step) (rows : List Row) (s : Step) (line : Line)
    → IsPartOfCycle k steps rows → length steps < k → IsStep s → line ≡ step_line s →
    IsPartOfCycle k (steps ++ s ∷ []) rows
    × (certificate_lines version (gives_cycle k (steps ++ s ∷ []) rows)
    ≡ certificate_lines version (gives_cycle k steps rows) ++ line ∷ [])
step-more version k steps (r ∷ rows) s line part less h is = let none = part.early less in absurd (cc)
step-more version k steps [] s line part less h is = (
  record {
    low = part.low;
    high = part.high;
    few = omega (arith, length-append steps (s ∷ []));
    each_step = All-push IsStep steps s part.each_step h;
    short = λ _. refl;
    early = λ _. refl;
    each_row = All-nil (IsRow k);
  },
  ap (λ (l : List Line). version_line version ∷ (codes "refused " ++ decimal k) ∷ l)
      (append-nil (map step_line (steps ++ s ∷ [])) ∙ map_push step_line steps s
      ∙ ap (λ l. map step_line steps ++ l ∷ []) (sym is)
      ∙ ap (λ (l : List Line). l ++ line ∷ []) (sym (append-nil (map step_line steps)))),
)

-- one row more is one line more
pub row-more : (version : Version) → (k : ℕ) (steps : List Step) (rows : List Row) (r : Row) (line : Line)
    → IsPartOfCycle k steps rows → length steps ≡ k → 3 ≤ k → IsRow k r → line ≡ row_line r →
    IsPartOfCycle k steps (rows ++ r ∷ [])
    × (certificate_lines version (gives_cycle k steps (rows ++ r ∷ []))
    ≡ certificate_lines version (gives_cycle k steps rows) ++ line ∷ [])
row-more version k steps rows r line part whole long h is = (
  record {
    low = part.low;
    high = part.high;
    few = part.few;
    each_step = part.each_step;
    short = λ two. absurd (omega arith);
    early = λ less. absurd (omega arith);
    each_row = All-push (IsRow k) rows r part.each_row h;
  },
  ap (λ (l : List Line). version_line version ∷ (codes "refused " ++ decimal k) ∷ l)
      (ap (λ (l : List Line). map step_line steps ++ l) (map_push row_line rows r
      ∙ ap (λ l. map row_line rows ++ l ∷ []) (sym is))
      ∙ sym (append_assoc (map step_line steps) (map row_line rows) (line ∷ []))),
)

pub refused-alone : (version : Version) → (kd : Kind) (k : ℕ) → IsKind kd → kd ≡ kind.Refused k
    → ¬ IsWholeCertificate (version_line version ∷ kind_line kd ∷ [])
refused-alone version kd k h e =
    let good = subst IsKind e h in
    subst (λ (a : Kind). ¬ IsWholeCertificate (version_line version ∷ kind_line a ∷ [])) (sym e)
    (lacks-step version k [] [] (no-steps k good.0 good.1) (omega arith))
