-- Names, one word after another.
use Rattle.std.proofs.Common.{◌≡◌, ℕ, ◌<◌, arith, List, [], ◌∷◌, ◌++◌, length, refl, sym, ap, ◌∙◌, Option}
use Rattle.std.proofs.Common.{Some, None, option_and_then}
use Rattle.std.proofs.lemmas.List.{append-nil, append_assoc}
use Rattle.std.proofs.lemmas.Option.{some_pair_parts}
use Rattle.events.specs.Names.{NameBytes}
use Rattle.format_words.specs.Words.{Word, words_behind}
use Rattle.format_words.specs.Reading.{◌>>=◌, GivesOne, HasSome, word_at, no_more, name_of, names_at, onto}
use Rattle.format_words.proofs.FirstWord.{some-word, none-behind}

pub word-at-some : (ws : List Word) (w : Word) (more : List Word) → word_at ws ≡ Some (w, more)
    → ws ≡ w ∷ more
word-at-some [] w more e = absurd (cc)
word-at-some (v ∷ vs) w more e = let parts = some_pair_parts v w vs more e in cc

word-there : (ws : List Word) → no_more ws ≡ None → word_at ws ≡ None → ⊥
word-there [] h e = cc
word-there (w ∷ ws) h e = cc

pub some-word-at : (rest : List ℕ) → 0 < length rest → word_at (words_behind rest) ≡ None → ⊥
some-word-at rest h e = word-there (words_behind rest) (some-word rest h) e

names-cons-none : (w : Word) (ws : List Word) → name_of w ≡ None → names_at (w ∷ ws) ≡ None
unfolding names_at
names-cons-none w ws e = rw e refl

and-then-onto : (name : NameBytes) (o : Option (List NameBytes))
    → option_and_then (λ names. Some (name ∷ names)) o ≡ onto (name ∷ []) o
and-then-onto name None = refl
and-then-onto name (Some names) = refl

pub names-cons-some : (w : Word) (ws : List Word) (name : NameBytes) → name_of w ≡ Some name
    → names_at (w ∷ ws) ≡ onto (name ∷ []) (names_at ws)
unfolding names_at
names-cons-some w ws name e = rw e (and-then-onto name (names_at ws))

pub onto-onto : (front back : List NameBytes) (o : Option (List NameBytes))
    → onto front (onto back o) ≡ onto (front ++ back) o
onto-onto front back None = refl
onto-onto front back (Some names) = ap Some (sym (append_assoc front back names))

-- no words are no names
pub names-end : (front : List NameBytes) (ws all : List Word) → names_at all ≡ onto front (names_at ws)
    → ws ≡ [] → names_at all ≡ Some front
unfolding names_at
names-end front ws all h e =
    h ∙ ap (λ (l : List Word). onto front (names_at l)) e ∙ ap Some (append-nil front)

-- one name more
pub names-more : (front : List NameBytes) (ws all : List Word) (w : Word) (more : List Word)
    (name : NameBytes) →
    names_at all ≡ onto front (names_at ws) → word_at ws ≡ Some (w, more) → name_of w ≡ Some name
    → names_at all ≡ onto (front ++ name ∷ []) (names_at more)
names-more front ws all w more name h e n =
    h ∙ ap (λ (l : List Word). onto front (names_at l)) (word-at-some ws w more e)
    ∙ ap (onto front) (names-cons-some w more name n) ∙ onto-onto front (name ∷ []) (names_at more)

-- a word that is no name
pub names-stop : (front : List NameBytes) (ws all : List Word) (w : Word) (more : List Word) →
    names_at all ≡ onto front (names_at ws) → word_at ws ≡ Some (w, more) → name_of w ≡ None
    → names_at all ≡ None
names-stop front ws all w more h e n =
    h ∙ ap (λ (l : List Word). onto front (names_at l)) (word-at-some ws w more e)
    ∙ ap (onto front) (names-cons-none w more n)

-- a rest without a byte has no names
pub no-names : (rest : List ℕ) (names : List NameBytes) → length rest ≡ 0 → names ≡ []
    → names_at (words_behind rest) ≡ Some names
unfolding names_at
no-names rest names none is = ap names_at (none-behind rest none) ∙ ap Some (sym is)

cons-some : (o : Option NameBytes) (p : Option (List NameBytes))
    → GivesOne (λ names. Unit {0}) (o >>= λ name. p >>= λ names. Some (name ∷ names))
    → GivesOne HasSome (o >>= λ name. p >>= λ names. Some (name ∷ names))
cons-some None p h = h
cons-some (Some name) None h = h
cons-some (Some name) (Some names) h = omega arith

words-some : (ws : List Word) → no_more ws ≡ None → GivesOne (λ names. Unit {0}) (names_at ws)
    → GivesOne HasSome (names_at ws)
unfolding names_at
words-some [] e h = absurd (cc)
words-some (w ∷ ws) e h = cons-some (name_of w) (names_at ws) h

-- another rest that is all names has some
pub some-names : (rest : List ℕ) → 0 < length rest
    → GivesOne (λ names. Unit {0}) (names_at (words_behind rest))
    → GivesOne HasSome (names_at (words_behind rest))
some-names rest some h = words-some (words_behind rest) (some-word rest some) h
