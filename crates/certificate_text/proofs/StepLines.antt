-- Lines of orders and steps: their words are read as what they spell, and no other words as such.
use Rattle.std.proofs.Common.{◌≡◌, List, [], ◌∷◌, ◌++◌, codes, Some, refl, sym, ap, ◌∙◌, subst, append_assoc}
use Rattle.std.specs.List.{All}
use Rattle.std.proofs.lemmas.List.{append-nil}
use Rattle.std.proofs.lemmas.List.Elements.{All-cons, All-nil, All-weaker}
use Rattle.std.proofs.lemmas.Option.{same_Some}
use Rattle.events.specs.Names.{NameBytes, IsName}
use Rattle.specification.specs.Conflict.{Step}
use Rattle.specification.specs.Lines.{Line, operation_text, order_line}
use Rattle.specification.specs.CertificateText.{step_line, IsStep}
use Rattle.format_words.specs.Words.{Word, words_of}
use Rattle.format_words.specs.Reading.{◌>>=◌, after_word, name_at, operation_at, names_at, no_more}
use Rattle.format_words.proofs.WordsBack.{bind-some, after-word-is, word-again, names-are, names-again}
use Rattle.format_words.proofs.WordsBack.{no-more-is}
use Rattle.format_words.proofs.Operations.{operation-at-is, operation-at-again, name-at-is, name-at-again}
use Rattle.format_words.proofs.Spaced.{IsPlain, plain-name, plain-operation, plain-literal, spaced}
use Rattle.format_words.proofs.Spaced.{words-of-spaced, spaced-by-words}
use Rattle.certificate_text.specs.Reading.{order_at, step_at}

-- orders

order-are : (ws : List Word) (order : List NameBytes) → order_at ws ≡ Some order
    → All IsName order × (ws ≡ codes "order" ∷ codes ":" ∷ order)
unfolding order_at
order-are ws order e =
    let words =
    bind-some (after_word (codes "order") ws) (λ words. after_word (codes ":") words >>=
    λ names. names_at names) order e in
    let names = bind-some (after_word (codes ":") words.0) names_at order words.2 in
    let each = names-are names.0 order names.2 in (
      each.1,
      after-word-is (codes "order") ws words.0 words.1
          ∙ ap (λ l. codes "order" ∷ l) (after-word-is (codes ":") words.0 names.0 names.1
          ∙ ap (λ l. codes ":" ∷ l) each.0),
    )

order-words-again : (order : List NameBytes) → All IsName order
    → order_at (codes "order" ∷ codes ":" ∷ order) ≡ Some order
unfolding order_at
order-words-again order h =
    rw (word-again (codes "order") (codes ":" ∷ order), word-again (codes ":") order) (names-again order h)

pub order-plain : (order : List NameBytes) → All IsName order → All IsPlain (codes ":" ∷ order)
order-plain order h =
    All-cons IsPlain (codes ":") order (plain-literal (codes ":") refl refl)
    (All-weaker IsName IsPlain plain-name order h)

pub plain-order : IsPlain (codes "order")
plain-order = plain-literal (codes "order") refl refl

pub order-spells : (line : Line) (order : List NameBytes) → order_at (words_of line) ≡ Some order
    → All IsName order × (line ≡ order_line order)
order-spells line order e =
    let p = order-are (words_of line) order e in
    (p.0, spaced-by-words line (codes "order") (codes ":" ∷ order) p.1)

pub order-again : (order : List NameBytes) → All IsName order
    → order_at (words_of (order_line order)) ≡ Some order
order-again order h =
    ap order_at (words-of-spaced (codes "order") (codes ":" ∷ order) plain-order (order-plain order h))
    ∙ order-words-again order h

-- steps

abbrev pub step_words : Step → List Word
step_words s = s.from ∷ s.to ∷ operation_text s.shown ∷ []

step-are : (ws : List Word) (s : Step) → step_at ws ≡ Some s → IsStep s × (ws ≡ codes "step" ∷ step_words s)
unfolding step_at
step-are ws s e =
    let words =
    bind-some (after_word (codes "step") ws) (λ words. name_at words >>= λ from. name_at from.1 >>=
    λ to. operation_at to.1 >>= λ shown. no_more shown.1 >>=
    λ none. Some (record { from = from.0; to = to.0; shown = shown.0 })) s e in
    let from =
    bind-some (name_at words.0) (λ from. name_at from.1 >>= λ to. operation_at to.1 >>=
    λ shown. no_more shown.1 >>= λ none. Some (record { from = from.0; to = to.0; shown = shown.0 })) s
    words.2 in
    let to =
    bind-some (name_at from.0.1) (λ to. operation_at to.1 >>= λ shown. no_more shown.1 >>=
    λ none. Some (record { from = from.0.0; to = to.0; shown = shown.0 })) s from.2 in
    let shown =
    bind-some (operation_at to.0.1) (λ shown. no_more shown.1 >>=
    λ none. Some (record { from = from.0.0; to = to.0.0; shown = shown.0 })) s to.2 in
    let none =
    bind-some (no_more shown.0.1)
    (λ none. Some (record { from = from.0.0; to = to.0.0; shown = shown.0.0 })) s shown.2 in
    let same = same_Some (record { from = from.0.0; to = to.0.0; shown = shown.0.0 }) s none.2 in
    let one = name-at-is words.0 from.0.0 from.0.1 from.1 in
    let two = name-at-is from.0.1 to.0.0 to.0.1 to.1 in
    let three = operation-at-is to.0.1 shown.0.0 shown.0.1 shown.1 in
    let list : words.0 ≡ from.0.0 ∷ to.0.0 ∷ operation_text shown.0.0 ∷ [] =
    one.1 ∙ ap (λ l. from.0.0 ∷ l) (two.1 ∙ ap (λ l. to.0.0 ∷ l) (three.1
    ∙ ap (λ l. operation_text shown.0.0 ∷ l) (no-more-is shown.0.1 none.0 none.1))) in
    subst (λ (s : Step). IsStep s × (ws ≡ codes "step" ∷ step_words s)) same (
      (one.0, two.0, three.0),
      after-word-is (codes "step") ws words.0 words.1 ∙ ap (λ l. codes "step" ∷ l) list,
    )

step-words-again : (s : Step) → IsStep s → step_at (codes "step" ∷ step_words s) ≡ Some s
unfolding step_at
step-words-again s h =
    rw (
      word-again (codes "step") (step_words s),
      name-at-again s.from (s.to ∷ operation_text s.shown ∷ []) h.0,
      name-at-again s.to (operation_text s.shown ∷ []) h.1,
      operation-at-again s.shown [] h.2,
    ) refl

pub step-spaced : (s : Step) → step_line s ≡ spaced (codes "step") (step_words s)
step-spaced s =
    ap (λ l. codes "step " ++ l) (append_assoc s.from (32 ∷ s.to) (32 ∷ operation_text s.shown)
    ∙ ap (λ l. s.from ++ 32 ∷ (s.to ++ 32 ∷ l)) (sym (append-nil (operation_text s.shown))))

pub plain-step : IsPlain (codes "step")
plain-step = plain-literal (codes "step") refl refl

pub step-plain : (s : Step) → IsStep s → All IsPlain (step_words s)
step-plain s h =
    All-cons IsPlain s.from (s.to ∷ operation_text s.shown ∷ []) (plain-name s.from h.0)
    (All-cons IsPlain s.to (operation_text s.shown ∷ []) (plain-name s.to h.1)
    (All-cons IsPlain (operation_text s.shown) [] (plain-operation s.shown h.2) (All-nil IsPlain)))

pub step-spells : (line : Line) (s : Step) → step_at (words_of line) ≡ Some s
    → IsStep s × (line ≡ step_line s)
step-spells line s e =
    let p = step-are (words_of line) s e in
    (p.0, spaced-by-words line (codes "step") (step_words s) p.1 ∙ sym (step-spaced s))

pub step-again : (s : Step) → IsStep s → step_at (words_of (step_line s)) ≡ Some s
step-again s h =
    ap (λ l. step_at (words_of l)) (step-spaced s)
    ∙ ap step_at (words-of-spaced (codes "step") (step_words s) plain-step (step-plain s h))
    ∙ step-words-again s h

pub one-step : (a b : Step) → IsStep a → IsStep b → step_line a ≡ step_line b → a ≡ b
one-step a b h k is =
    same_Some a b (sym (step-again a h) ∙ ap (λ l. step_at (words_of l)) is ∙ step-again b k)

pub one-order : (a b : List NameBytes) → All IsName a → All IsName b → order_line a ≡ order_line b → a ≡ b
one-order a b h k is =
    same_Some a b (sym (order-again a h) ∙ ap (λ l. order_at (words_of l)) is ∙ order-again b k)
