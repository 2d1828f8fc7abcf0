-- A text cut into the lines that have their LF, and what follows the last of them.
use Rattle.std.proofs.Common.{◌≡◌, ℕ, zero, suc, ◌<◌, ◌==◌, Bool, true, false, List, [], ◌∷◌, ◌++◌, length}
use Rattle.std.proofs.Common.{refl, sym, ap, ◌∙◌, arith}
use Rattle.std.specs.List.{All}
use Rattle.std.proofs.lemmas.List.{append_assoc, append-nil}
use Rattle.std.proofs.lemmas.List.Concat.{flat_map-append}
use Rattle.std.proofs.lemmas.List.Elements.{All-head, All-tail, All-cons, All-nil}
use Rattle.std.proofs.lemmas.Bool.{eqb-false, eqb-true}
use Rattle.specification.specs.Lines.{Line, text_of, IsOneLine}

-- the lines that have their LF, and what follows the last of them
pub record Cut (text : List ℕ) : Type 0 where
  pub lines : List Line
  pub rest : Line
  pub each : All IsOneLine lines
  pub last : IsOneLine rest
  pub whole : text ≡ text_of lines ++ rest

no-byte : IsOneLine []
no-byte (k, low, is) = absurd (omega arith)

one-more : (b : ℕ) (line : Line) → (b ≡ 10 → ⊥) → IsOneLine line → IsOneLine (b ∷ line)
one-more b line ne h (zero, low, is) = ne is
one-more b line ne h (suc k, low, is) = h (k, (let l : k < length line = omega (arith, low) in l), is)

cut-more : (b : ℕ) (bs : List ℕ) (t : Bool) → (b == 10) ≡ t → Cut bs → Cut (b ∷ bs)
cut-more b bs true e c =
    let lf : b ≡ 10 = eqb-true b 10 e in
    record {
      lines = [] ∷ c.lines;
      rest = c.rest;
      each = All-cons IsOneLine [] c.lines no-byte c.each;
      last = c.last;
      whole = ap (λ l. b ∷ l) c.whole ∙ ap (λ a. a ∷ (text_of c.lines ++ c.rest)) lf;
    }
cut-more b bs false e c = onto b bs (eqb-false b 10 e) c.lines c.rest c.each c.last c.whole
  where
    onto : (b : ℕ) (bs : List ℕ) → (b ≡ 10 → ⊥) → (lines : List Line) (rest : Line) → All IsOneLine lines
        → IsOneLine rest → bs ≡ text_of lines ++ rest → Cut (b ∷ bs)
    onto b bs ne [] rest each last whole =
        record {
          lines = [];
          rest = b ∷ rest;
          each = All-nil IsOneLine;
          last = one-more b rest ne last;
          whole = ap (λ l. b ∷ l) whole;
        }
    onto b bs ne (l ∷ lines) rest each last whole =
        record {
          lines = (b ∷ l) ∷ lines;
          rest = rest;
          each =
              All-cons IsOneLine (b ∷ l) lines (one-more b l ne (All-head IsOneLine l lines each))
              (All-tail IsOneLine l lines each);
          last = last;
          whole = ap (λ l. b ∷ l) whole;
        }

pub cut-text : (text : List ℕ) → Cut text
cut-text [] = record { lines = []; rest = []; each = All-nil IsOneLine; last = no-byte; whole = refl }
cut-text (b ∷ bs) = cut-more b bs (b == 10) refl (cut-text bs)

-- the first of the lines that are left
pub line-off : (l : Line) (lines : List Line) (rest : List ℕ)
    → text_of (l ∷ lines) ++ rest ≡ l ++ 10 ∷ (text_of lines ++ rest)
line-off l lines rest =
    append_assoc (l ++ 10 ∷ []) (text_of lines) rest ∙ append_assoc l (10 ∷ []) (text_of lines ++ rest)

-- and at the end of those that are right
pub line-on : (lines : List Line) (l : Line) (behind : List ℕ)
    → text_of lines ++ (l ++ 10 ∷ behind) ≡ text_of (lines ++ l ∷ []) ++ behind
line-on lines l behind =
    ap (λ t. text_of lines ++ t) (sym (append_assoc l (10 ∷ []) behind))
    ∙ sym (append_assoc (text_of lines) (l ++ 10 ∷ []) behind)
    ∙ ap (λ t. t ++ behind) (ap (λ t. text_of lines ++ t) (sym (append-nil (l ++ 10 ∷ [])))
    ∙ sym (flat_map-append (λ (line : Line). line ++ 10 ∷ []) lines (l ∷ [])))
