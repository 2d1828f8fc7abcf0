-- How a line falls into words.
use Rattle.std.proofs.Common.{◌≡◌, ℕ, ◌+◌, ◌<◌, ◌≤◌, ◌==◌, Bool, true, false, not, cond, ltb, List, [], ◌∷◌}
use Rattle.std.proofs.Common.{length, take, drop, refl, ap, ◌∙◌, arith, Some, None, unwrap_or, position}
use Rattle.std.specs.List.{onto_first, position_or_len}
use Rattle.std.proofs.Math.Numerals.{one-add}
use Rattle.std.proofs.lemmas.List.Sums.{prefix_len-le-length}
use Rattle.std.proofs.lemmas.Bool.Decides.{nat_tests}
use Rattle.format_words.specs.Words.{words_of, words_behind}
use Rattle.format_words.specs.Reading.{no_more}

abbrev is_space : ℕ → Bool
is_space b = b == 32

abbrev end_of : List ℕ → ℕ
end_of text = position_or_len is_space text

cut-step : (c : Bool) (b : ℕ) (bs : List ℕ) (k : ℕ) → words_of bs ≡ take k bs ∷ words_behind (drop k bs) →
    cond c ([] ∷ words_of bs) (onto_first b (words_of bs)) ≡ take (cond (not c) (1 + k) 0) (b ∷ bs)
    ∷ words_behind (drop (cond (not c) (1 + k) 0) (b ∷ bs))
cut-step true b bs k h = refl
cut-step false b bs k h = rw (one-add k) (ap (onto_first b) h)

cut-word : (text : List ℕ) → words_of text ≡ take (end_of text) text ∷ words_behind (drop (end_of text) text)
cut-word [] = refl
cut-word (b ∷ bs) = cut-step (is_space b) b bs (end_of bs) (cut-word bs)

place-is : (k m : ℕ) → k ≤ m → unwrap_or (cond (ltb k m) (Some k) None) m ≡ k
place-is k m h = grind (arith, nat_tests)

-- the first word ends at the first space, or with the text
pub first-word : (text : List ℕ) (n : ℕ) → n ≡ unwrap_or (position (λ b. b == 32) text) (length text)
    → words_of text ≡ take n text ∷ words_behind (drop n text)
first-word text n e =
    let at : n ≡ end_of text =
    e ∙ place-is (end_of text) (length text) (prefix_len-le-length (λ b. not (is_space b)) text) in
    rw at (cut-word text)

-- after a space there is a word
pub some-word : (rest : List ℕ) → 0 < length rest → no_more (words_behind rest) ≡ None
some-word [] h = absurd (omega arith)
some-word (b ∷ bs) h = rw (cut-word bs) refl

pub none-behind : (rest : List ℕ) → length rest ≡ 0 → words_behind rest ≡ []
none-behind [] h = refl
none-behind (b ∷ bs) h = absurd (omega arith)
