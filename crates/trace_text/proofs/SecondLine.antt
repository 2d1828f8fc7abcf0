-- The second line: `replicas` and a number.
use Rattle.std.proofs.Common.{◌≡◌, ◌≢◌, ℕ, zero, suc, ◌<◌, ◌≤◌, ◌^◌, List, [], ◌∷◌, refl, sym, ap, ◌∙◌, arith}
use Rattle.std.proofs.Common.{decimal, codes, Some, None, ◌⊎◌, inl, inr}
use Rattle.std.proofs.lemmas.Option.{same_Some, none-some}
use Rattle.std.proofs.lemmas.Bool.{cases_order}
use Rattle.std.proofs.lemmas.List.Splits.{join_with_byte-slice_split}
use Rattle.std.specs.List.{join_with_byte}
use Rattle.specification.specs.TraceText.{replicas_line}
use Rattle.format_words.specs.Words.{Word, words_of}
use Rattle.events.specs.declared.TheConstants.{MOST_REPLICAS}
use Rattle.format_words.specs.Reading.{◌>>=◌, number_at, no_more, after_word}
use Rattle.trace_text.specs.Reading.{replicas_at}
use Rattle.format_words.proofs.LineWords.{number-lacks, last-word}
use Rattle.format_words.proofs.WordsBack.{bind-some, number-at-is, after-word-is, no-more-is, number-again}
use Rattle.format_words.proofs.WordsBack.{word-again}

replicas-are : (ws : List Word) (n : ℕ) → replicas_at ws ≡ Some n → ws ≡ codes "replicas" ∷ decimal n ∷ []
unfolding replicas_at
replicas-are ws n e =
    let words =
    bind-some (after_word (codes "replicas") ws) (λ words. number_at words >>= λ m. no_more m.1 >>=
    λ none. Some m.0) n e in
    let m = bind-some (number_at words.0) (λ m. no_more m.1 >>= λ none. Some m.0) n words.2 in
    let none = bind-some (no_more m.0.1) (λ none. Some m.0.0) n m.2 in
    let value : m.0.0 ≡ n = same_Some m.0.0 n none.2 in
    let number = number-at-is words.0 m.0.0 m.0.1 m.1 in
    after-word-is (codes "replicas") ws words.0 words.1 ∙ ap (λ l. codes "replicas" ∷ l) (number.0
    ∙ ap (λ l. decimal m.0.0 ∷ l) (no-more-is m.0.1 none.0 none.1) ∙ ap (λ k. decimal k ∷ []) value)

replicas-again : (n : ℕ) → n < 2 ^ 32 → replicas_at (codes "replicas" ∷ decimal n ∷ []) ≡ Some n
unfolding replicas_at
replicas-again n small = rw (word-again (codes "replicas") (decimal n ∷ []), number-again n [] small) refl

pub replicas-words : (n : ℕ) → n < 2 ^ 32 → words_of (replicas_line n) ≡ codes "replicas" ∷ decimal n ∷ []
replicas-words n small = ap (λ l. codes "replicas" ∷ l) (last-word (decimal n) (number-lacks n small))

-- a line of which a number is read is the second line with that number
pub replicas-spells : (line : List ℕ) (n : ℕ) → replicas_at (words_of line) ≡ Some n → line ≡ replicas_line n
replicas-spells line n e =
    sym (join_with_byte-slice_split 32 line) ∙ ap (join_with_byte 32) (replicas-are (words_of line) n e)

pub replicas-line-again : (line : List ℕ) (n : ℕ) → n < 2 ^ 32 → line ≡ replicas_line n
    → replicas_at (words_of line) ≡ Some n
replicas-line-again line n small is =
    ap (λ l. replicas_at (words_of l)) is ∙ ap replicas_at (replicas-words n small) ∙ replicas-again n small

-- it has no other number
pub replicas-same : (line : List ℕ) (m n : ℕ) → replicas_at (words_of line) ≡ Some m → n < 2 ^ 32
    → line ≡ replicas_line n → m ≡ n
replicas-same line m n e small is = same_Some m n (sym e ∙ replicas-line-again line n small is)

-- and where none is read, it has none
pub replicas-none : (line : List ℕ) (n : ℕ) → replicas_at (words_of line) ≡ None → n < 2 ^ 32
    → line ≢ replicas_line n
replicas-none line n e small is = absurd (none-some n (sym e ∙ replicas-line-again line n small is))

-- a line of which none is read has no such number
pub no-second-line : (line : List ℕ) → replicas_at (words_of line) ≡ None → (n : ℕ) → 1 ≤ n
    → n ≤ MOST_REPLICAS → line ≢ replicas_line n
no-second-line line none n low high line_is = replicas-none line n none (omega arith) line_is

-- nor has one whose number is out of range
pub bad-number : (line : List ℕ) (m : ℕ) → replicas_at (words_of line) ≡ Some m
    → (m ≡ 0) ⊎ (MOST_REPLICAS < m) → (n : ℕ) → 1 ≤ n → n ≤ MOST_REPLICAS → line ≢ replicas_line n
bad-number line m e (inl zero_is) n low high line_is = let same : m ≡ n =
    replicas-same line m n e (omega arith) line_is in absurd (omega arith)
bad-number line m e (inr above) n low high line_is = let same : m ≡ n =
    replicas-same line m n e (omega arith) line_is in absurd (omega arith)

-- a number that is not out of range
some-number : (m : ℕ) → (m ≡ 0 → ⊥) → 1 ≤ m
some-number zero h = absurd (h refl)
some-number (suc m) h = omega arith

few-number : (m : ℕ) → (MOST_REPLICAS < m → ⊥) → m ≤ MOST_REPLICAS
few-number m h = go (cases_order m MOST_REPLICAS)
  where
    go : (m ≡ MOST_REPLICAS) ⊎ ((m < MOST_REPLICAS) ⊎ (MOST_REPLICAS < m)) → m ≤ MOST_REPLICAS
    go (inl e) = omega arith
    go (inr (inl lt)) = omega arith
    go (inr (inr gt)) = absurd (h gt)

-- a line of which a number is read that is not out of range begins a recording
pub good-number : (line : List ℕ) (m : ℕ) → replicas_at (words_of line) ≡ Some m → (m ≡ 0 → ⊥)
    → (MOST_REPLICAS < m → ⊥) → (n : ℕ) × (1 ≤ n) × (n ≤ MOST_REPLICAS) × (line ≡ replicas_line n)
good-number line m e some few = (m, some-number m some, few-number m few, replicas-spells line m e)
