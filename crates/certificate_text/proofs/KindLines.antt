-- Second lines: the words of a kind's line, read as that kind, and no other words as one.
use Rattle.std.proofs.Common.{◌≡◌, Bool, true, false, cond, nat_le, List, [], ◌∷◌, ◌++◌, codes, decimal}
use Rattle.std.proofs.Common.{Option, Some, None, option_map, ◌⊎◌, inl, inr, refl, sym, ap, ◌∙◌, subst}
use Rattle.std.specs.List.{All}
use Rattle.std.specs.Str.{bytes_eq}
use Rattle.std.proofs.lemmas.List.{append-nil}
use Rattle.std.proofs.lemmas.List.Elements.{All-cons, All-nil}
use Rattle.std.proofs.lemmas.Option.{same_Some, cond_some}
use Rattle.std.proofs.lemmas.Slice.Eq.{bytes_eq-Decides}
use Rattle.std.proofs.lemmas.Bool.{leb-true, le-leb}
use Rattle.events.specs.Operation.{Operation}
use Rattle.specification.specs.Lines.{Line, operation_text}
use Rattle.specification.specs.CertificateText.{IsOperationName}
use Rattle.format_words.specs.Words.{Word, words_of}
use Rattle.format_words.specs.Reading.{◌>>=◌, number_at, operation_at, no_more}
use Rattle.format_words.proofs.WordsBack.{bind-some, number-at-is, number-again, no-more-is}
use Rattle.format_words.proofs.Operations.{operation-at-is, operation-at-again}
use Rattle.format_words.proofs.Spaced.{IsPlain, plain-number, plain-operation, plain-literal, spaced}
use Rattle.format_words.proofs.Spaced.{words-of-spaced, spaced-by-words}
use Rattle.certificate_text.specs.declared.kind.Kind.{Kind}
use Rattle.certificate_text.specs.declared.kind.Kind.TheVariants.{Doubled, Contents, Position, Accepted}
use Rattle.certificate_text.specs.declared.kind.Kind.TheVariants.{Refused}
use Rattle.certificate_text.specs.Reading.{last_operation_at, doubled_at, accepted_at, refused_at, kind_by}
use Rattle.certificate_text.specs.Reading.{kind_at}
use Rattle.certificate_text.specs.Progress.{IsKind, kind_line}

abbrev pub kind_word : Kind → Word
kind_word (Doubled first again) = codes "doubled"
kind_word (Contents at) = codes "contents"
kind_word (Position at) = codes "position"
kind_word Accepted = codes "accepted"
kind_word (Refused k) = codes "refused"

abbrev pub kind_more : Kind → List Word
kind_more (Doubled first again) = operation_text first ∷ operation_text again ∷ []
kind_more (Contents at) = operation_text at ∷ []
kind_more (Position at) = operation_text at ∷ []
kind_more Accepted = []
kind_more (Refused k) = decimal k ∷ []

pub kind-spaced : (kind : Kind) → kind_line kind ≡ spaced (kind_word kind) (kind_more kind)
kind-spaced (Doubled first again) =
    ap (λ l. codes "doubled " ++ (operation_text first ++ 32 ∷ l)) (sym (append-nil (operation_text again)))
kind-spaced (Contents at) = ap (λ l. codes "contents " ++ l) (sym (append-nil (operation_text at)))
kind-spaced (Position at) = ap (λ l. codes "position " ++ l) (sym (append-nil (operation_text at)))
kind-spaced Accepted = refl
kind-spaced (Refused k) = ap (λ l. codes "refused " ++ l) (sym (append-nil (decimal k)))

pub kind-word-plain : (kind : Kind) → IsPlain (kind_word kind)
kind-word-plain (Doubled first again) = plain-literal (codes "doubled") refl refl
kind-word-plain (Contents at) = plain-literal (codes "contents") refl refl
kind-word-plain (Position at) = plain-literal (codes "position") refl refl
kind-word-plain Accepted = plain-literal (codes "accepted") refl refl
kind-word-plain (Refused k) = plain-literal (codes "refused") refl refl

one-plain : (w : Word) → IsPlain w → All IsPlain (w ∷ [])
one-plain w h = All-cons IsPlain w [] h (All-nil IsPlain)

pub kind-more-plain : (kind : Kind) → IsKind kind → All IsPlain (kind_more kind)
kind-more-plain (Doubled first again) h =
    All-cons IsPlain (operation_text first) (operation_text again ∷ []) (plain-operation first h.0)
    (one-plain (operation_text again) (plain-operation again h.1))
kind-more-plain (Contents at) h = one-plain (operation_text at) (plain-operation at h)
kind-more-plain (Position at) h = one-plain (operation_text at) (plain-operation at h)
kind-more-plain Accepted h = All-nil IsPlain
kind-more-plain (Refused k) h = one-plain (decimal k) (plain-number k h.1)

-- one operation, and nothing after it
last-is : (ws : List Word) (o : Operation) → last_operation_at ws ≡ Some o
    → IsOperationName o × (ws ≡ operation_text o ∷ [])
unfolding last_operation_at
last-is ws o e =
    let at = bind-some (operation_at ws) (λ at. no_more at.1 >>= λ none. Some at.0) o e in
    let none = bind-some (no_more at.0.1) (λ none. Some at.0.0) o at.2 in
    let is = operation-at-is ws at.0.0 at.0.1 at.1 in
    subst (λ p. IsOperationName p × (ws ≡ operation_text p ∷ [])) (same_Some at.0.0 o none.2)
    (is.0, is.1 ∙ ap (λ l. operation_text at.0.0 ∷ l) (no-more-is at.0.1 none.0 none.1))

mapped-some : (make : Operation → Kind) (o : Option Operation) (kind : Kind) → option_map make o ≡ Some kind
    → (x : Operation) × (o ≡ Some x) × (make x ≡ kind)
mapped-some make None kind e = absurd (cc)
mapped-some make (Some x) kind e = (x, refl, same_Some (make x) kind e)

abbrev Are : Word → List Word → Kind → Type 0
Are w ws kind = IsKind kind × (w ∷ ws ≡ kind_word kind ∷ kind_more kind)

doubled-are : (ws : List Word) (kind : Kind) → doubled_at ws ≡ Some kind → Are (codes "doubled") ws kind
unfolding doubled_at
doubled-are ws kind e =
    let first =
    bind-some (operation_at ws) (λ first. last_operation_at first.1 >>=
    λ again. Some (Doubled first.0 again)) kind e in
    let again =
    bind-some (last_operation_at first.0.1) (λ again. Some (Doubled first.0.0 again)) kind first.2 in
    let one = operation-at-is ws first.0.0 first.0.1 first.1 in
    let two = last-is first.0.1 again.0 again.1 in
    subst (Are (codes "doubled") ws) (same_Some (Doubled first.0.0 again.0) kind again.2)
    ((one.0, two.0), ap (λ l. codes "doubled" ∷ l) (one.1 ∙ ap (λ l. operation_text first.0.0 ∷ l) two.1))

-- a kind of one operation
alone-are : (word : Word) (make : Operation → Kind) → ((o : Operation) → IsOperationName o
    → Are word (operation_text o ∷ []) (make o)) → (ws : List Word) (kind : Kind) →
    option_map make (last_operation_at ws) ≡ Some kind → Are word ws kind
alone-are word make each ws kind e =
    let p = mapped-some make (last_operation_at ws) kind e in
    let is = last-is ws p.0 p.1 in
    subst (λ l. Are word l kind) (sym is.1) (subst (Are word (operation_text p.0 ∷ [])) p.2 (each p.0 is.0))

accepted-are : (ws : List Word) (kind : Kind) → accepted_at ws ≡ Some kind → Are (codes "accepted") ws kind
unfolding accepted_at
accepted-are ws kind e =
    let none = bind-some (no_more ws) (λ none. Some Accepted) kind e in
    subst (Are (codes "accepted") ws) (same_Some Accepted kind none.2) (
      tt,
      ap (λ l. codes "accepted" ∷ l) (no-more-is ws none.0 none.1),
    )

refused-are : (ws : List Word) (kind : Kind) → refused_at ws ≡ Some kind → Are (codes "refused") ws kind
unfolding refused_at
refused-are ws kind e =
    let k = bind-some (number_at ws)
    (λ k. no_more k.1 >>= λ none. cond (nat_le 2 k.0) (Some (Refused k.0)) None) kind e in
    let none =
    bind-some (no_more k.0.1) (λ none. cond (nat_le 2 k.0.0) (Some (Refused k.0.0)) None) kind k.2 in
    let made = cond_some (nat_le 2 k.0.0) (Refused k.0.0) kind none.2 in
    let is = number-at-is ws k.0.0 k.0.1 k.1 in
    subst (Are (codes "refused") ws) made.1 (
      (leb-true 2 k.0.0 made.0, is.1),
      ap (λ l. codes "refused" ∷ l) (is.0 ∙ ap (λ l. decimal k.0.0 ∷ l) (no-more-is k.0.1 none.0 none.1)),
    )

chosen : {A : Type 0} (t : Bool) (x y : Option A) (z : A) → cond t x y ≡ Some z
    → ((t ≡ true) × (x ≡ Some z)) ⊎ (y ≡ Some z)
chosen true x y z e = inl (refl, e)
chosen false x y z e = inr e

by-word : (w word : Word) (ws : List Word) (kind : Kind) → bytes_eq w word ≡ true → Are word ws kind
    → Are w ws kind
by-word w word ws kind t h = (h.0, ap (λ v. v ∷ ws) ((bytes_eq-Decides w word).0 t) ∙ h.1)

by-are : (w : Word) (ws : List Word) (kind : Kind) → kind_by w ws ≡ Some kind → Are w ws kind
unfolding kind_by
by-are w ws kind e = elim (chosen (bytes_eq w (codes "doubled")) _ _ kind e) [
  | inl h ↦ by-word w (codes "doubled") ws kind h.0 (doubled-are ws kind h.1)
  | inr e1 ↦ elim (chosen (bytes_eq w (codes "contents")) _ _ kind e1) [
    | inl h ↦
        by-word w (codes "contents") ws kind h.0
        (alone-are (codes "contents") (λ at. Contents at) (λ o is. (is, refl)) ws kind h.1)
    | inr e2 ↦ elim (chosen (bytes_eq w (codes "position")) _ _ kind e2) [
      | inl h ↦
          by-word w (codes "position") ws kind h.0
          (alone-are (codes "position") (λ at. Position at) (λ o is. (is, refl)) ws kind h.1)
      | inr e3 ↦ elim (chosen (bytes_eq w (codes "accepted")) _ _ kind e3) [
        | inl h ↦ by-word w (codes "accepted") ws kind h.0 (accepted-are ws kind h.1)
        | inr e4 ↦ elim (chosen (bytes_eq w (codes "refused")) _ _ kind e4) [
          | inl h ↦ by-word w (codes "refused") ws kind h.0 (refused-are ws kind h.1)
          | inr none ↦ absurd (cc)
        ]
      ]
    ]
  ]
]

kind-are : (ws : List Word) (kind : Kind) → kind_at ws ≡ Some kind
    → IsKind kind × (ws ≡ kind_word kind ∷ kind_more kind)
unfolding kind_at
kind-are [] kind e = absurd (cc)
kind-are (w ∷ ws) kind e = by-are w ws kind e

kind-words-again : (kind : Kind) → IsKind kind → kind_at (kind_word kind ∷ kind_more kind) ≡ Some kind
unfolding kind_at kind_by doubled_at last_operation_at accepted_at refused_at
kind-words-again (Doubled first again) h =
    rw (operation-at-again first (operation_text again ∷ []) h.0, operation-at-again again [] h.1) refl
kind-words-again (Contents at) h = rw (operation-at-again at [] h) refl
kind-words-again (Position at) h = rw (operation-at-again at [] h) refl
kind-words-again Accepted h = refl
kind-words-again (Refused k) h = rw (number-again k [] h.1, le-leb 2 k h.0) refl

-- a line that is read spells the kind
pub kind-spells : (line : Line) (kind : Kind) → kind_at (words_of line) ≡ Some kind
    → IsKind kind × (line ≡ kind_line kind)
kind-spells line kind e =
    let p = kind-are (words_of line) kind e in
    (p.0, spaced-by-words line (kind_word kind) (kind_more kind) p.1 ∙ sym (kind-spaced kind))

-- and a kind's line is read as that kind
pub kind-again : (kind : Kind) → IsKind kind → kind_at (words_of (kind_line kind)) ≡ Some kind
kind-again kind h =
    ap (λ l. kind_at (words_of l)) (kind-spaced kind)
    ∙ ap kind_at
    (words-of-spaced (kind_word kind) (kind_more kind) (kind-word-plain kind) (kind-more-plain kind h))
    ∙ kind-words-again kind h

pub one-kind : (a b : Kind) → IsKind a → IsKind b → kind_line a ≡ kind_line b → a ≡ b
one-kind a b h k is =
    same_Some a b (sym (kind-again a h) ∙ ap (λ l. kind_at (words_of l)) is ∙ kind-again b k)
