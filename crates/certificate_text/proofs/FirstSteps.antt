-- The line of a step that a text begins with.
use Rattle.std.proofs.Common.{◌≡◌, ℕ, List, ◌∷◌, ◌++◌, length, codes, refl, sym, ◌∙◌, ap, subst, arith}
use Rattle.std.proofs.lemmas.List.Elements.{Contains-append_right}
use Rattle.specification.specs.Conflict.{Step}
use Rattle.specification.specs.Lines.{Line, IsOneLine}
use Rattle.specification.specs.CertificateText.{step_line, IsStep}
use Rattle.format_words.proofs.Spaced.{spaced-lacks}
use Rattle.format_words.proofs.TextLines.{LacksLf, lines_of, line-then, lacks-lf}
use Rattle.format_words.proofs.TwoCuts.{same-cut}
use Rattle.certificate_text.proofs.StepLines.{step_words, step-spaced, plain-step, step-plain}

first-same : (x y : Line) (xs ys : List Line) → x ∷ xs ≡ y ∷ ys → x ≡ y
first-same x y xs ys e = Prim.cc

-- the first line of a text
pub line-same : (l m : Line) (rest more : List ℕ) → LacksLf l → LacksLf m → l ++ 10 ∷ rest ≡ m ++ 10 ∷ more
    → (l ≡ m) × (rest ≡ more)
line-same l m rest more one two e =
    let heads : l ∷ lines_of rest ≡ m ∷ lines_of more =
    sym (line-then l rest one) ∙ ap lines_of e ∙ line-then m more two in
    let same : l ≡ m = first-same l m (lines_of rest) (lines_of more) heads in
    (same, (same-cut l m 10 10 rest more e (ap length same)).2)

pub step-lacks : (s : Step) → IsStep s → LacksLf (step_line s)
step-lacks s h =
    subst LacksLf (sym (step-spaced s))
    (spaced-lacks (codes "step") (step_words s) plain-step (step-plain s h))

pub no-line : (l : Line) (more : List ℕ) → IsOneLine (l ++ 10 ∷ more) → ⊥
no-line l more one = one (Contains-append_right l (10 ∷ more) 10 (0, omega arith, refl))

-- the line that is cut off is the step's
pub step-cut : (s : Step) (more line rest : List ℕ) → IsStep s → IsOneLine line
    → line ++ 10 ∷ rest ≡ step_line s ++ 10 ∷ more → line ≡ step_line s
step-cut s more line rest h one is =
    (line-same line (step_line s) rest more (lacks-lf line one) (step-lacks s h) is).0
