-- Lines of words, each after one space.
use Rattle.std.proofs.Common.{◌≡◌, ℕ, ◌<◌, ◌^◌, ◌==◌, true, false, not, List, [], ◌∷◌, ◌++◌, decimal, refl}
use Rattle.std.proofs.Common.{sym, ap, ◌∙◌, arith}
use Rattle.std.specs.List.{All, list_all, join_with_byte}
use Rattle.std.proofs.lemmas.List.Splits.{join_with_byte-slice_split}
use Rattle.std.proofs.lemmas.List.Elements.{All-head, All-tail, All-cons, All-nil, All-weaker}
use Rattle.events.specs.Names.{NameBytes, IsName}
use Rattle.events.specs.Operation.{Operation}
use Rattle.specification.specs.Lines.{Line, names_text, operation_text}
use Rattle.specification.specs.CertificateText.{IsOperationName}
use Rattle.format_words.specs.Words.{Word, words_of}
use Rattle.format_words.proofs.Bytes.{Lacks, lacks-name, lacks-number, lacks-literal, lacks-both}
use Rattle.format_words.proofs.LineWords.{LacksSpace, join-names, names-words}
use Rattle.format_words.proofs.Operations.{lacks-operation}
use Rattle.format_words.proofs.TextLines.{LacksLf}

-- neither a space nor a LF stands in it
abbrev pub IsPlain : Word → Type 0
IsPlain w = Lacks 32 w × Lacks 10 w

pub plain-name : (a : NameBytes) → IsName a → IsPlain a
plain-name a h = (lacks-name 32 a refl h, lacks-name 10 a refl h)

pub plain-number : (n : ℕ) → n < 2 ^ 32 → IsPlain (decimal n)
plain-number n small = (lacks-number 32 n (omega arith) small, lacks-number 10 n (omega arith) small)

pub plain-operation : (o : Operation) → IsOperationName o → IsPlain (operation_text o)
plain-operation o h = (lacks-operation 32 o (omega arith) h, lacks-operation 10 o (omega arith) h)

pub plain-literal : (w : Word) → list_all (λ b. not (b == 32)) w ≡ true
    → list_all (λ b. not (b == 10)) w ≡ true → IsPlain w
plain-literal w h k = (lacks-literal 32 w h, lacks-literal 10 w k)

-- a word, and words after it
abbrev pub spaced : Word → List Word → Line
spaced w ws = w ++ names_text ws

pub words-of-spaced : (w : Word) (ws : List Word) → IsPlain w → All IsPlain ws
    → words_of (spaced w ws) ≡ w ∷ ws
words-of-spaced w ws h k = names-words w ws h.0 (All-weaker IsPlain LacksSpace (λ v p. p.0) ws k)

pub spaced-by-words : (line : Line) (w : Word) (ws : List Word) → words_of line ≡ w ∷ ws → line ≡ spaced w ws
spaced-by-words line w ws e =
    sym (join_with_byte-slice_split 32 line) ∙ ap (join_with_byte 32) e ∙ join-names w ws

spaces-lack : (ws : List Word) → All IsPlain ws → LacksLf (names_text ws)
spaces-lack [] h = All-nil (λ b. (b == 10) ≡ false)
spaces-lack (w ∷ ws) h =
    lacks-both 10 (32 ∷ w) (names_text ws) (All-cons (λ b. (b == 10) ≡ false) 32 w refl
    (All-head IsPlain w ws h).1) (spaces-lack ws (All-tail IsPlain w ws h))

pub spaced-lacks : (w : Word) (ws : List Word) → IsPlain w → All IsPlain ws → LacksLf (spaced w ws)
spaced-lacks w ws h k = lacks-both 10 w (names_text ws) h.1 (spaces-lack ws k)
