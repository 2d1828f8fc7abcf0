-- The first line of a text.
use Rattle.std.proofs.Common.{◌≡◌, ℕ, ◌+◌, ◌<◌, ◌==◌, List, ◌∷◌, ◌++◌, length, get_or, take, drop, position}
use Rattle.std.proofs.Common.{Some, sym, ap, ◌∙◌, arith, length-take}
use Rattle.std.proofs.lemmas.List.{drop_more, take-append-drop, get_or-take}
use Rattle.std.proofs.lemmas.List.Quantifiers.{position-Some}
use Rattle.std.proofs.lemmas.Bool.{eqb-true, eq-eqb}
use Rattle.std.proofs.lemmas.Grind.{get_or_default_zero}
use Rattle.memchr.specs.Find.{NoneBefore, Nowhere, Passes, is_byte}
use Rattle.specification.specs.Lines.{IsOneLine}

-- what stands before the first LF has none
pub line-before : (text : List ℕ) (end : ℕ) → NoneBefore (Passes (is_byte 10) text) 0 (length text) end
    → IsOneLine (take end text)
line-before text end first (k, low, is) =
    let below : k < end = omega (arith, length-take end text, low) in
    first.before k (omega arith) below
    (eq-eqb (get_or text k 0) 10 (sym (get_or_default_zero text k 10 (omega (arith, below, first.high)))
    ∙ sym (get_or-take end text k 10 below) ∙ is))

-- what stands before the first of a byte, and what after it
pub parts-at : (c : ℕ) (text : List ℕ) (end : ℕ) → position (λ b. b == c) text ≡ Some end
    → (end < length text) × (text ≡ take end text ++ c ∷ drop (end + 1) text)
parts-at c text end e =
    let found = position-Some (λ b. b == c) text end c e in
    let there : get_or text end c ≡ c = eqb-true (get_or text end c) c found.1 in (
      found.0,
      sym (take-append-drop end text) ∙ ap (λ l. take end text ++ l) (drop_more text end c found.0
          ∙ ap (λ b. b ∷ drop (end + 1) text) there),
    )

-- and after it stands the LF
pub line-parts : (text : List ℕ) (end : ℕ) → end < length text → Passes (is_byte 10) text end
    → text ≡ take end text ++ 10 ∷ drop (end + 1) text
line-parts text end low passes =
    let there : get_or text end 0 ≡ 10 = eqb-true (get_or text end 0) 10 passes in
    sym (take-append-drop end text)
    ∙ ap (λ l. take end text ++ l) (drop_more text end 0 low ∙ ap (λ b. b ∷ drop (end + 1) text) there)

-- a text without an LF is one line
pub no-line : (text : List ℕ) → Nowhere (Passes (is_byte 10) text) 0 (length text) → IsOneLine text
no-line text none (k, low, is) =
    none k (omega arith) low (eq-eqb (get_or text k 0) 10 (sym (get_or_default_zero text k 10 low) ∙ is))
