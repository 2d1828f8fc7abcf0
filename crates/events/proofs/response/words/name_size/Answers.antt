-- What may stand in a name is a name where it is neither nothing nor too long, and ends with the word.
use Rattle.std.proofs.Common.{◌≡◌, ◌∙◌, ◌∷◌, true, false, length, slice_get, sym, ap, arith}
use Rattle.events.specs.Runs.{may_follow}
use Rattle.events.proofs.WordNames.{some-name, name-there}
use Rattle.events.proofs.response.words.name_size.Goals as goal
use Rattle.events.proofs.response.words.name_size.Goals.{then-size-via-then-size}
use Rattle.events.proofs.response.words.name_size.Goals.{then-size-via-else-size+then-not-ends_word}

true-false : true ≡ false → ⊥
true-false e = cc

pub returns-then-size-clause-none : goal.returns-then-size-clause-none
returns-then-size-clause-none c = λ _ a name begins.
    let is : c.args.text.now ≡ 32 ∷ c.in-Some.word.now =
    c.in-Some.ensures.cases.0 ∙ ap (λ x. x ∷ c.in-Some.word.now) c.if-space-ne32.false in
    let there = name-there c.args.text.now c.in-Some.word.now a is name begins in
    elim c.then-size.branch [
      | then-size-via-then-size w ↦
          omega (arith, w.if-size.true, c.allowed_bytes-size.ensures, there.0, name.few_bytes)
      | then-size-via-else-size+then-not-ends_word w ↦
          let size : length a ≡ c.allowed_bytes-size.result =
          sym there.0 ∙ sym c.allowed_bytes-size.ensures in
          true-false (sym there.1 ∙ ap (λ n. may_follow (slice_get c.in-Some.word.now n)) size
          ∙ sym w.ends_word.ensures ∙ w.if-not-ends_word.true)
    ]

pub returns-clause-some : goal.returns-clause-some
returns-clause-some c = λ some.
    let is : c.args.text.now ≡ 32 ∷ c.in-Some.word.now =
    c.in-Some.ensures.cases.0 ∙ ap (λ x. x ∷ c.in-Some.word.now) c.if-space-ne32.false in
    some-name c.args.text.now c.in-Some.word.now c.allowed_bytes-size.result is c.allowed_bytes-size.ensures
    some c.if-size.false (sym c.ends_word.ensures ∙ c.if-not-ends_word.false)
