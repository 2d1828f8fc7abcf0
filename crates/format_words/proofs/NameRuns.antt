-- A run of names that a text begins with, read as names.
use Rattle.std.proofs.Common.{◌≡◌, ℕ, ◌+◌, ◌<◌, ◌≤◌, true, Option, Some, None, List, [], ◌∷◌, ◌++◌, length}
use Rattle.std.proofs.Common.{drop, slice_get, refl, sym, ap, ◌∙◌, arith, length-take}
use Rattle.std.specs.Prelude.{All}
use Rattle.std.proofs.lemmas.Bool.{eqb-true}
use Rattle.std.proofs.lemmas.List.{append-nil, append_assoc, take-append-drop}
use Rattle.std.proofs.lemmas.List.Elements.{All-head, All-tail}
use Rattle.events.specs.Names.{NameBytes, IsName}
use Rattle.events.specs.Packed.{spaced}
use Rattle.events.specs.Runs.{BeginsWith, may_follow}
use Rattle.events.proofs.Places.{drop-get}
use Rattle.format_words.specs.Words.{Word, words_of, words_behind}
use Rattle.format_words.specs.Reading.{word_at, name_of, names_at, onto}
use Rattle.format_words.proofs.LineWords.{LacksSpace, name-lacks, word-then, last-word}
use Rattle.format_words.proofs.NameWords.{name_of-name}
use Rattle.format_words.proofs.NamesRead.{names-cons-some, onto-onto, word-at-some}

-- a word before a space or the end
word-behind : (a rest : List ℕ) → LacksSpace a → may_follow (slice_get rest 0) ≡ true
    → words_of (a ++ rest) ≡ a ∷ words_behind rest
word-behind a [] h follows = ap words_of (append-nil a) ∙ last-word a h
word-behind a (b ∷ rest) h follows =
    let space : b ≡ 32 = eqb-true b 32 follows in
    ap (λ x. words_of (a ++ x ∷ rest)) space ∙ word-then a rest h

follow : (names : List NameBytes) (rest : List ℕ) → may_follow (slice_get rest 0) ≡ true
    → may_follow (slice_get (spaced names ++ rest) 0) ≡ true
follow [] rest follows = follows
follow (a ∷ names) rest follows = refl

words-run : (run : List NameBytes) (rest : List ℕ) → All IsName run → may_follow (slice_get rest 0) ≡ true
    → words_behind (spaced run ++ rest) ≡ run ++ words_behind rest
words-run [] rest h follows = refl
words-run (a ∷ run) rest h follows =
    ap words_of (append_assoc a (spaced run) rest)
    ∙ word-behind a (spaced run ++ rest) (name-lacks a (All-head IsName a run h)) (follow run rest follows)
    ∙ ap (λ l. a ∷ l) (words-run run rest (All-tail IsName a run h) follows)

pub onto-nil : (o : Option (List NameBytes)) → o ≡ onto [] o
onto-nil None = refl
onto-nil (Some names) = refl

names-run : (run : List NameBytes) (ws : List Word) → All IsName run
    → names_at (run ++ ws) ≡ onto run (names_at ws)
names-run [] ws h = onto-nil (names_at ws)
names-run (a ∷ run) ws h =
    names-cons-some a (run ++ ws) a (name_of-name a (All-head IsName a run h))
    ∙ ap (onto (a ∷ [])) (names-run run ws (All-tail IsName a run h))
    ∙ onto-onto (a ∷ []) run (names_at ws)

module _ (text : List ℕ) (run : List NameBytes) (names : All IsName run) (h : BeginsWith text run) where
  abbrev size : ℕ
  size = length (spaced run)

  pub text-is : text ≡ spaced run ++ drop size text
  text-is = sym (take-append-drop size text) ∙ ap (λ l. l ++ drop size text) h.same

  pub run-within : size ≤ length text
  run-within = omega (arith, sym (length-take size text) ∙ ap length h.same)

  -- the words of the run, and those after it
  pub names-after-run : names_at (words_behind text) ≡ onto run (names_at (words_behind (drop size text)))
  names-after-run =
      let place : size ≡ size + 0 = omega arith in
      let follows : may_follow (slice_get (drop size text) 0) ≡ true =
      ap may_follow (drop-get size 0 text ∙ sym (ap (slice_get text) place)) ∙ h.ends in
      ap (λ l. names_at (words_behind l)) text-is ∙ ap names_at (words-run run (drop size text) names follows)
      ∙ names-run run (words_behind (drop size text)) names

-- some names take some bytes
pub some-bytes : (run : List NameBytes) → 0 < length run → 0 < length (spaced run)
some-bytes [] h = absurd (omega (arith, h))
some-bytes (a ∷ run) h = omega arith

-- so the names so far go on with the run
pub onto-run : (front : List NameBytes) (text : List ℕ) (run : List NameBytes) → All IsName run
    → BeginsWith text run → onto front (names_at (words_behind text))
    ≡ onto (front ++ run) (names_at (words_behind (drop (length (spaced run)) text)))
onto-run front text run names h = ap (onto front) (names-after-run text run names h)
    ∙ onto-onto front run (names_at (words_behind (drop (length (spaced run)) text)))

-- or with one word
pub onto-word : (front : List NameBytes) (ws : List Word) (w : Word) (more : List Word) (name : NameBytes)
    → word_at ws ≡ Some (w, more) → name_of w ≡ Some name → onto front (names_at ws)
    ≡ onto (front ++ name ∷ []) (names_at more)
onto-word front ws w more name e n =
    ap (λ (l : List Word). onto front (names_at l)) (word-at-some ws w more e)
    ∙ ap (onto front) (names-cons-some w more name n) ∙ onto-onto front (name ∷ []) (names_at more)
