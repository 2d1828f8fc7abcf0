-- A run of names, or a word that is one.
use Rattle.std.proofs.Common.{◌≡◌, ◌∙◌, ℕ, ◌<◌, ◌≤◌, ◌++◌, List, length, take, drop, sym, ap, arith}
use Rattle.std.proofs.Common.{length-drop, length-take}
use Rattle.std.specs.Prelude.{All}
use Rattle.std.proofs.lemmas.Result.{err_from_is_err_and}
use Rattle.std.proofs.lemmas.List.{append-nil}
use Rattle.std.proofs.lemmas.List.Elements.{All-take, All-drop}
use Rattle.events.specs.Names.{NameBytes, IsName}
use Rattle.events.specs.Packed.{spaced}
use Rattle.events.specs.Runs.{IsLongestRun}
use Rattle.format_words.specs.Words.{words_behind}
use Rattle.format_words.specs.Reading.{names_at, onto}
use Rattle.format_words.proofs.NameRuns.{onto-run, run-within, some-bytes}
use Rattle.format_words.proofs.name_list.push_next.Goals as goal

-- a run of some names of a list from a place on
module _ (text : List ℕ) (others : List NameBytes) (are : All IsName others) (place n bytes : ℕ)
    (longest : IsLongestRun text (drop place others) n bytes) (some : 0 < n) where
  run_onto : (old new : List NameBytes) (rest : List ℕ) → new ≡ old ++ take n (drop place others)
      → rest ≡ drop bytes text → onto old (names_at (words_behind text))
      ≡ onto new (names_at (words_behind rest))
  run_onto old new rest more behind =
      onto-run old text (take n (drop place others))
      (All-take IsName n (drop place others) (All-drop IsName place others are)) (longest.begins some)
      ∙ ap (λ (l : List NameBytes). onto l
      (names_at (words_behind (drop (length (spaced (take n (drop place others)))) text)))) (sym more)
      ∙ ap (λ k. onto new (names_at (words_behind (drop k text)))) (sym longest.bytes_are)
      ∙ ap (λ l. onto new (names_at (words_behind l))) (sym behind)

  run_shorter : (rest : List ℕ) → rest ≡ drop bytes text → length rest < length text
  run_shorter rest behind =
      let names : All IsName (take n (drop place others)) =
      All-take IsName n (drop place others) (All-drop IsName place others are) in
      let count : 0 < length (take n (drop place others)) =
      omega (arith, some, longest.within, length-take n (drop place others)) in
      omega (
        arith,
        ap length behind,
        length-drop bytes text,
        longest.bytes_are,
        some-bytes (take n (drop place others)) count,
        run-within text (take n (drop place others)) names (longest.begins some),
      )

pub returns-then-run-gt0-clause-names : goal.returns-then-run-gt0-clause-names
returns-then-run-gt0-clause-names c =
    run_onto c.args.rest.now c.args.like.now c.in_ok-run.ensures.names c.args.place c.in_ok-run.run'.names
    c.in_ok-run.run'.bytes c.in_ok-run.ensures.ok c.if-run-gt0.true
    c.args.names.now _ _ c.in_ok-run.ensures.value c.after.ensures

pub returns-then-run-gt0-clause-shorter : goal.returns-then-run-gt0-clause-shorter
returns-then-run-gt0-clause-shorter c =
    run_shorter c.args.rest.now c.args.like.now c.in_ok-run.ensures.names c.args.place c.in_ok-run.run'.names
    c.in_ok-run.run'.bytes c.in_ok-run.ensures.ok c.if-run-gt0.true _ c.after.ensures

pub returns-in_err-word-clause-stop : goal.returns-in_err-word-clause-stop
returns-in_err-word-clause-stop c =
    let p = err_from_is_err_and c.from_residual-in_err-word.result c.from_residual-in_err-word.ensures.1 in
    rw (p.1, p.2) (λ is. c.in_err-word.ensures.stop is)

no-more : (old new others : List NameBytes) (n : ℕ) → n ≤ 0 → new ≡ old ++ take n others → new ≡ old
no-more old new others n none is =
    let nothing : n ≡ 0 = omega (arith, none) in
    is ∙ ap (λ k. old ++ take k others) nothing ∙ append-nil old

pub returns-clause-names : goal.returns-clause-names
returns-clause-names c =
    let same =
    no-more c.args.names.now _ _ c.in_ok-run.run'.names c.if-run-gt0.false c.in_ok-run.ensures.value in
    ap (λ (l : List NameBytes). onto l (names_at (words_behind c.args.rest.now))) (sym same)
    ∙ c.in_ok-word.ensures.names
