-- Words that are read are the words of what is read, and are read as that.
use Rattle.std.proofs.Common.{◌≡◌, ℕ, ◌<◌, ◌^◌, List, [], ◌∷◌, refl, ap, ◌∙◌, subst, decimal, Option, Some}
use Rattle.std.proofs.Common.{None}
use Rattle.std.specs.Str.{bytes_eq}
use Rattle.std.specs.List.{All}
use Rattle.std.proofs.lemmas.Slice.Eq.{bytes_eq-Decides}
use Rattle.std.proofs.lemmas.Option.{same_Some, cond_some, some_pair_parts}
use Rattle.std.proofs.lemmas.List.Elements.{All-head, All-tail, All-cons, All-nil}
use Rattle.events.specs.Names.{NameBytes, IsName}
use Rattle.format_words.specs.Words.{Word}
use Rattle.format_words.specs.Reading.{◌>>=◌, no_more, number_of, name_of, number_at, after_word, names_at}
use Rattle.format_words.proofs.Numbers.{number_of-is, number_of-decimal}
use Rattle.format_words.proofs.NameWords.{name-is, name_of-name}

pub bind-some : {A B : Type 0} (o : Option A) (f : A → Option B) (y : B) → (o >>= f) ≡ Some y
    → (x : A) × (o ≡ Some x) × (f x ≡ Some y)
bind-some None f y e = absurd (cc)
bind-some (Some x) f y e = (x, refl, e)

-- what is read of the first word, and the words behind it
pub read-first : {A : Type 0} (read : Word → Option A) (w : Word) (ws : List Word) (x : A) (more : List Word)
    → ◌>>=◌ {B = A × List Word} (read w) (λ y. Some (y, ws)) ≡ Some (x, more)
    → (read w ≡ Some x) × (ws ≡ more)
read-first {A} read w ws x more e =
    let p = bind-some {B = A × List Word} (read w) (λ y. Some (y, ws)) (x, more) e in
    let parts = some_pair_parts p.0 x ws more p.2 in
    (p.1 ∙ ap Some parts.0, parts.1)

pub number-at-is : (ws : List Word) (n : ℕ) (more : List Word) → number_at ws ≡ Some (n, more)
    → (ws ≡ decimal n ∷ more) × (n < 2 ^ 32)
unfolding number_at
number-at-is [] n more e = absurd (cc)
number-at-is (w ∷ ws) n more e =
    let p = read-first number_of w ws n more e in
    let is = number_of-is w n p.0 in
    (cc, is.1)

pub after-word-is : (wanted : Word) (ws more : List Word) → after_word wanted ws ≡ Some more
    → ws ≡ wanted ∷ more
unfolding after_word
after-word-is wanted [] more e = absurd (cc)
after-word-is wanted (w ∷ ws) more e =
    let parts = cond_some (bytes_eq w wanted) ws more e in
    let same = (bytes_eq-Decides w wanted).0 parts.0 in
    cc

pub names-are : (ws : List Word) (names : List NameBytes) → names_at ws ≡ Some names
    → (ws ≡ names) × All IsName names
unfolding names_at
names-are [] names e = let same = same_Some [] names e in (same, subst (All IsName) same (All-nil IsName))
names-are (w ∷ ws) names e =
    let p = bind-some (name_of w) (λ name. names_at ws >>= λ more. Some (name ∷ more)) names e in
    let q = bind-some (names_at ws) (λ more. Some (p.0 ∷ more)) names p.2 in
    let same = same_Some (p.0 ∷ q.0) names q.2 in
    let first = name-is w p.0 p.1 in
    let others = names-are ws q.0 q.1 in
    (cc, subst (All IsName) same (All-cons IsName p.0 q.0 first.1 others.1))

pub no-more-is : (ws : List Word) (x : Unit {0}) → no_more ws ≡ Some x → ws ≡ []
no-more-is [] x e = refl
no-more-is (w ∷ ws) x e = absurd (cc)

pub number-again : (n : ℕ) (ws : List Word) → n < 2 ^ 32 → number_at (decimal n ∷ ws) ≡ Some (n, ws)
unfolding number_at
number-again n ws small = rw (number_of-decimal n small) refl

pub word-again : (wanted : Word) (ws : List Word) → after_word wanted (wanted ∷ ws) ≡ Some ws
unfolding after_word
word-again wanted ws = rw ((bytes_eq-Decides wanted wanted).1 refl) refl

pub names-again : (names : List NameBytes) → All IsName names → names_at names ≡ Some names
unfolding names_at
names-again [] h = refl
names-again (a ∷ names) h =
    rw (name_of-name a (All-head IsName a names h), names-again names (All-tail IsName a names h)) refl
