-- Steps that are read one after the other from their lines, and judged.
use Rattle.std.proofs.Common.{◌≡◌, ◌≢◌, ℕ, zero, suc, ◌+◌, ◌<◌, ◌≤◌, ◌⊎◌, inl, inr, Some, Bool, false, ◌==◌}
use Rattle.std.proofs.Common.{List, [], ◌∷◌, ◌++◌, map, drop, length, refl, sym, ◌∙◌, ap, subst, arith}
use Rattle.std.proofs.Common.{length-append}
use Rattle.std.specs.Prelude.{All, slice_get}
use Rattle.std.proofs.lemmas.Bool.{cases_lt}
use Rattle.std.proofs.lemmas.List.Elements.{All-head, All-tail, All-cons, All-nil, All-push}
use Rattle.std.proofs.lemmas.List.{append-nil}
use Rattle.events.specs.Names.{NameBytes}
use Rattle.events.specs.History.{History}
use Rattle.specification.specs.Conflict.{Step}
use Rattle.specification.specs.Lines.{text_of}
use Rattle.specification.specs.CertificateText.{IsStep, step_line}
use Rattle.specification.specs.Responses.{responses_of}
use Rattle.specification.specs.ValidCertificate.{StepIsRight, IsFirstWrongStep}
use Rattle.cert_check.specs.Ring.{next_place}
use Rattle.cert_check.proofs.Rings.{next_is}
use Rattle.certificate_text.proofs.OutlineTexts.{one-more, some-byte}
use Rattle.cert_check.proofs.TextLines.{drop-next, first-line, step-same, same-steps}

-- what a step at this place begins with
abbrev pub BeginsWith : NameBytes → List Step → ℕ → Type 0
BeginsWith begin steps i = (s : Step) × (slice_get steps i ≡ Some s) × (s.from ≡ begin)

-- the first step's first name, the step before this place, and the lines from this place on
pub record StepsSoFar (h : History) (steps : List Step) (begin : NameBytes) (step : Step) (rest : List ℕ)
    (i : ℕ) : Type 0 where
  pub low : 1 ≤ i
  pub high : i ≤ length steps
  pub first_at : BeginsWith begin steps 0
  pub step_at : (j : ℕ) → suc j ≡ i → slice_get steps j ≡ Some step
  pub lines : rest ≡ text_of (map step_line (drop i steps))
  pub right : (j : ℕ) → suc j < i → StepIsRight (responses_of h) steps j

-- what is read first, where these steps are left
module _ (h : History) (steps : List Step) (begin : NameBytes) (step : Step) (rest : List ℕ) (i : ℕ)
    (so_far : StepsSoFar h steps begin step rest i) where
  pub next-there : i < length steps → (s : Step) × (slice_get steps i ≡ Some s)
      × (rest ≡ text_of (map step_line (s ∷ drop (i + 1) steps)))
  next-there lt =
      let d = drop-next steps i lt in
      (d.0, d.1, so_far.lines ∙ ap (λ (l : List Step). text_of (map step_line l)) d.2)

  pub before : (j : ℕ) → suc j ≡ i → (next : Step) → i < length steps → slice_get steps i ≡ Some next
      → slice_get steps (next_place (length steps) j) ≡ Some next
  before j is next lt at = go (next_is (length steps) j (omega (arith, is, lt)))
    where
      go : ((suc j ≡ length steps) × (next_place (length steps) j ≡ 0))
          ⊎ ((suc j < length steps) × (next_place (length steps) j ≡ suc j))
          → slice_get steps (next_place (length steps) j) ≡ Some next
      go (inl w) = absurd (let e : suc j ≡ length steps = w.0 in omega (arith, e, is, lt))
      go (inr w) = ap (slice_get steps) (w.1 ∙ is) ∙ at

  pub last : (j : ℕ) → suc j ≡ i → i ≡ length steps → BeginsWith begin steps (next_place (length steps) j)
  last j is end = go (next_is (length steps) j (omega (arith, is, end)))
    where
      go : ((suc j ≡ length steps) × (next_place (length steps) j ≡ 0))
          ⊎ ((suc j < length steps) × (next_place (length steps) j ≡ suc j))
          → BeginsWith begin steps (next_place (length steps) j)
      go (inl w) = subst (BeginsWith begin steps) (sym w.1) so_far.first_at
      go (inr w) = absurd (let e : suc j < length steps = w.0 in omega (arith, e, is, end))

  pub step-next : (next : Step) (more : List ℕ) → i < length steps → slice_get steps i ≡ Some next
      → more ≡ text_of (map step_line (drop (i + 1) steps)) →
      ((j : ℕ) → suc j ≡ i → StepIsRight (responses_of h) steps j)
      → StepsSoFar h steps begin next more (i + 1)
  step-next next more lt at lines right = record {
    low = omega arith;
    high = omega (arith, lt);
    first_at = so_far.first_at;
    step_at = λ j is. (let same : j ≡ i = omega (arith, is) in ap (slice_get steps) same ∙ at);
    lines = lines;
    right = λ j low. elim (cases_lt (suc j) i) [
      | inl lt ↦ so_far.right j lt
      | inr ge ↦ right j (omega (arith, ge, low))
    ];
  }

-- after the first step
pub steps-start : (h : History) (steps : List Step) (first : Step) (rest : List ℕ)
    → slice_get steps 0 ≡ Some first → 2 ≤ length steps → rest ≡ text_of (map step_line (drop 1 steps))
    → StepsSoFar h steps first.from first rest 1
steps-start h steps first rest at some lines = record {
  low = omega arith;
  high = omega (arith, some);
  first_at = (first, at, refl);
  step_at = λ j is. (let same : j ≡ 0 = omega (arith, is) in ap (slice_get steps) same ∙ at);
  lines = lines;
  right = λ j low. absurd (omega (arith, low));
}

-- what the reading of a first step answers of the lines that begin with a step's
abbrev pub Reads : List ℕ → Step → List ℕ → Type 0
Reads lines step rest = IsStep step × (lines ≡ step_line step ++ 10 ∷ rest)

abbrev pub ReadsNone : List ℕ → Type 0
ReadsNone lines = (s : Step) (more : List ℕ) → IsStep s → lines ≢ step_line s ++ 10 ∷ more

read-off : (lines : List ℕ) (step s : Step) (rest : List ℕ) (more : List Step) → Reads lines step rest
    → IsStep s → lines ≡ text_of (map step_line (s ∷ more)) → (step ≡ s)
    × (rest ≡ text_of (map step_line more))
read-off lines step s rest more read h is =
    step-same step s rest (text_of (map step_line more)) read.0 h (sym read.1 ∙ is
    ∙ first-line (step_line s) (map step_line more))

none-off : (lines : List ℕ) (s : Step) (more : List Step) → ReadsNone lines → IsStep s
    → lines ≡ text_of (map step_line (s ∷ more)) → ⊥
none-off lines s more none h is =
    none s (text_of (map step_line more)) h (is ∙ first-line (step_line s) (map step_line more))

-- the first of the lines
module _ (h : History) (lines : List ℕ) where
  pub start-of : (steps : List Step) (first : Step) (rest : List ℕ) → 2 ≤ length steps → All IsStep steps
      → lines ≡ text_of (map step_line steps) → Reads lines first rest
      → StepsSoFar h steps first.from first rest 1
  start-of [] first rest some each is read = absurd (omega (arith, some))
  start-of (s ∷ more) first rest some each is read =
      let got = read-off lines first s rest more read (All-head IsStep s more each) is in
      steps-start h (s ∷ more) first rest (ap Some (sym got.0)) some got.1

  pub no-start : (steps : List Step) → 2 ≤ length steps → All IsStep steps
      → lines ≡ text_of (map step_line steps) → ReadsNone lines → ⊥
  no-start [] some each is none = omega (arith, some)
  no-start (s ∷ more) some each is none = none-off lines s more none (All-head IsStep s more each) is

drop-past : (steps : List Step) (i : ℕ) → length steps ≤ i → drop i steps ≡ []
drop-past [] zero le = refl
drop-past [] (suc i) le = refl
drop-past (s ∷ steps) zero le = absurd (omega (arith, le))
drop-past (s ∷ steps) (suc i) le = drop-past steps i (omega (arith, le))

step-good : (steps : List Step) (i : ℕ) (s : Step) → All IsStep steps → slice_get steps i ≡ Some s → IsStep s
step-good [] i s each at = absurd Prim.cc
step-good (t ∷ steps) zero s each at = let e : t ≡ s = Prim.cc in
    subst IsStep e (All-head IsStep t steps each)
step-good (t ∷ steps) (suc i) s each at = step-good steps i s (All-tail IsStep t steps each) at

module _ (h : History) (steps : List Step) (begin : NameBytes) (step : Step) (rest : List ℕ) (i : ℕ)
    (so_far : StepsSoFar h steps begin step rest i) (each : All IsStep steps) where
  -- what is read next
  pub read-next : (next : Step) (more : List ℕ) → i < length steps → Reads rest next more
      → (slice_get steps i ≡ Some next) × (more ≡ text_of (map step_line (drop (i + 1) steps)))
  read-next next more lt read =
      let t = next-there h steps begin step rest i so_far lt in
      let got = read-off rest next t.0 more (drop (i + 1) steps) read (step-good steps i t.0 each t.1) t.2 in
      (t.1 ∙ ap Some (sym got.0), got.1)

  pub no-next : i < length steps → ReadsNone rest → ⊥
  no-next lt none =
      let t = next-there h steps begin step rest i so_far lt in
      none-off rest t.0 (drop (i + 1) steps) none (step-good steps i t.0 each t.1) t.2

  -- where all are read nothing is left
  pub none-left : length steps ≡ i → rest ≡ []
  none-left end =
      so_far.lines
      ∙ ap (λ (l : List Step). text_of (map step_line l)) (drop-past steps i (omega (arith, end)))

pub some-left : (rest : List ℕ) (t : Bool) → t ≡ (length rest == 0) → t ≡ false → rest ≡ [] → ⊥
some-left rest t told is none =
    let low = some-byte rest t told is in
    omega (arith, low, ap length none)

-- the steps that were read, whose lines stand before the rest
abbrev pub SaidSoFar : List ℕ → List ℕ → ℕ → Type 0
SaidSoFar lines rest i = (steps : List Step) × (length steps ≡ i) × All IsStep steps
    × (lines ≡ text_of (map step_line steps) ++ rest)

pub said-first : (lines : List ℕ) (step : Step) (rest : List ℕ) → Reads lines step rest
    → SaidSoFar lines rest 1
said-first lines step rest read = (
  step ∷ [],
  refl,
  All-cons IsStep step [] read.0 (All-nil IsStep),
  one-more step_line [] step lines lines rest refl read.1,
)

pub said-next : (lines rest : List ℕ) (i : ℕ) (step : Step) (more : List ℕ) → SaidSoFar lines rest i
    → Reads rest step more → SaidSoFar lines more (i + 1)
said-next lines rest i step more said read = (
  said.0 ++ step ∷ [],
  length-append said.0 (step ∷ []) ∙ ap (λ (n : ℕ). n + 1) said.1,
  All-push IsStep said.0 step said.2 read.0,
  one-more step_line said.0 step lines rest more said.3 read.1,
)

pub said-all : (lines rest : List ℕ) (i : ℕ) → SaidSoFar lines rest i → rest ≡ []
    → (steps : List Step) × (length steps ≡ i) × All IsStep steps × (lines ≡ text_of (map step_line steps))
said-all lines rest i said none = (
  said.0,
  said.1,
  said.2,
  said.3 ∙ ap (λ t. text_of (map step_line said.0) ++ t) none
      ∙ append-nil (text_of (map step_line said.0)),
)

-- the step before the place is the first that is wrong
pub wrong-at : (h : History) (steps : List Step) (begin : NameBytes) (step : Step) (rest : List ℕ) (i : ℕ)
    → StepsSoFar h steps begin step rest i →
    ((j : ℕ) → suc j ≡ i → StepIsRight (responses_of h) steps j → ⊥)
    → IsFirstWrongStep (responses_of h) steps i
wrong-at h steps begin step rest zero so_far wrong = absurd (omega (arith, so_far.low))
wrong-at h steps begin step rest (suc j) so_far wrong =
    (omega (arith, so_far.high), wrong j refl, (λ m lt. so_far.right m (omega (arith, lt))))

-- or it is right, and the last
pub all-at : (h : History) (steps : List Step) (begin : NameBytes) (step : Step) (rest : List ℕ) (i : ℕ)
    → StepsSoFar h steps begin step rest i → length steps ≡ i →
    ((j : ℕ) → suc j ≡ i → StepIsRight (responses_of h) steps j) → (m : ℕ) → m < length steps
    → StepIsRight (responses_of h) steps m
all-at h steps begin step rest i so_far end right m lt = elim (cases_lt (suc m) i) [
  | inl low ↦ so_far.right m low
  | inr ge ↦ right m (omega (arith, ge, lt, end))
]

-- where the steps that lines say are right, so are the steps whose lines they are
pub right_steps : (h : History) (lines : List ℕ) (k : ℕ) (steps : List Step) → All IsStep steps
    → lines ≡ text_of (map step_line steps) →
    (said : List Step) × (length said ≡ k) × All IsStep said × (lines ≡ text_of (map step_line said))
    × ((i : ℕ) → i < length said → StepIsRight (responses_of h) said i) →
    (i : ℕ) → i < length steps → StepIsRight (responses_of h) steps i
right_steps h lines k steps each is said =
    let same : said.0 ≡ steps = same-steps said.0 steps said.2 each (sym said.3 ∙ is) in
    subst (λ (l : List Step). (i : ℕ) → i < length l → StepIsRight (responses_of h) l i) same said.4
