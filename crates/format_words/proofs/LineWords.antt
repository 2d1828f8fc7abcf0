-- A line of words, each after one space.
use Rattle.std.proofs.Common.{◌≡◌, ℕ, ◌<◌, ◌^◌, ◌==◌, List, [], ◌∷◌, ◌++◌, refl, sym, ap, ◌∙◌, arith, decimal}
use Rattle.std.specs.List.{All, join_with_byte}
use Rattle.std.proofs.lemmas.List.{append-nil}
use Rattle.std.proofs.lemmas.List.Splits.{slice_split_none, slice_split_at}
use Rattle.std.proofs.lemmas.List.Elements.{All-head, All-tail, All-weaker}
use Rattle.events.specs.Names.{NameBytes, IsName}
use Rattle.specification.specs.Lines.{names_text}
use Rattle.format_words.specs.Words.{Word, words_of}
use Rattle.format_words.proofs.Bytes.{Lacks, lacks-name, lacks-number}

-- no space stands in it
abbrev pub LacksSpace : Word → Type 0
LacksSpace w = Lacks 32 w

-- names after a word, put together
pub join-names : (w : Word) (names : List NameBytes) → join_with_byte 32 (w ∷ names) ≡ w ++ names_text names
join-names w [] = sym (append-nil w)
join-names w (a ∷ names) = ap (λ l. w ++ 32 ∷ l) (join-names a names)

pub name-lacks : (a : NameBytes) → IsName a → LacksSpace a
name-lacks a h = lacks-name 32 a refl h

pub names-lack : (names : List NameBytes) → All IsName names → All LacksSpace names
names-lack names h = All-weaker IsName LacksSpace name-lacks names h

pub number-lacks : (n : ℕ) → n < 2 ^ 32 → LacksSpace (decimal n)
number-lacks n small = lacks-number 32 n (omega arith) small

pub word-then : (w : Word) (rest : List ℕ) → LacksSpace w → words_of (w ++ 32 ∷ rest) ≡ w ∷ words_of rest
word-then w rest h = slice_split_at (λ b. b == 32) w 32 rest h refl

pub last-word : (w : Word) → LacksSpace w → words_of w ≡ w ∷ []
last-word w h = slice_split_none (λ b. b == 32) w h

pub names-words : (w : Word) (names : List NameBytes) → LacksSpace w → All LacksSpace names
    → words_of (w ++ names_text names) ≡ w ∷ names
names-words w [] h k = ap words_of (append-nil w) ∙ last-word w h
names-words w (a ∷ names) h k =
    word-then w (a ++ names_text names) h
    ∙ ap (λ l. w ∷ l)
    (names-words a names (All-head LacksSpace a names k) (All-tail LacksSpace a names k))
