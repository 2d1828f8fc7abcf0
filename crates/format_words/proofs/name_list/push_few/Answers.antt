-- The names that the rest begins with, or a word that is one.
use Rattle.std.proofs.Common.{◌≡◌, ◌∙◌, ℕ, ◌<◌, ◌++◌, List, length, drop, sym, ap, arith, length-drop}
use Rattle.events.specs.Names.{NameBytes}
use Rattle.events.specs.Packed.{spaced}
use Rattle.events.specs.Runs.{AreFirstNames}
use Rattle.format_words.specs.Words.{words_behind}
use Rattle.format_words.specs.Reading.{names_at, onto}
use Rattle.format_words.proofs.NameRuns.{onto-run, run-within, some-bytes}
use Rattle.format_words.proofs.name_list.push_few.Goals as goal

module _ (text : List ℕ) (names : List NameBytes) (n bytes : ℕ) (first : AreFirstNames 64 text names n bytes)
    (some : 0 < n) where
  count : 0 < length names
  count = omega (arith, some, first.count)

  first_onto : (old new : List NameBytes) (rest : List ℕ) → new ≡ old ++ names → rest ≡ drop bytes text
      → onto old (names_at (words_behind text)) ≡ onto new (names_at (words_behind rest))
  first_onto old new rest more behind =
      onto-run old text names first.are (first.begins count)
      ∙ ap (λ (l : List NameBytes). onto l (names_at (words_behind (drop (length (spaced names)) text))))
      (sym more)
      ∙ ap (λ k. onto new (names_at (words_behind (drop k text)))) (sym first.bytes_are)
      ∙ ap (λ l. onto new (names_at (words_behind l))) (sym behind)

  first_shorter : (rest : List ℕ) → rest ≡ drop bytes text → length rest < length text
  first_shorter rest behind =
      omega (
        arith,
        ap length behind,
        length-drop bytes text,
        first.bytes_are,
        some-bytes names count,
        run-within text names first.are (first.begins count),
      )

pub returns-then-run-gt0-clause-names : goal.returns-then-run-gt0-clause-names
returns-then-run-gt0-clause-names c =
    let found = c.in_ok-run.ensures.ok in
    first_onto c.args.rest.now found.0 c.in_ok-run.run'.names c.in_ok-run.run'.bytes found.1 c.if-run-gt0.true
    c.args.names.now _ _ found.2 c.after.ensures

pub returns-then-run-gt0-clause-shorter : goal.returns-then-run-gt0-clause-shorter
returns-then-run-gt0-clause-shorter c =
    let found = c.in_ok-run.ensures.ok in
    first_shorter c.args.rest.now found.0 c.in_ok-run.run'.names c.in_ok-run.run'.bytes found.1
    c.if-run-gt0.true _ c.after.ensures
