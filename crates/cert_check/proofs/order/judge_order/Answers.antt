-- A permutation of the elements is judged by its places.
use Rattle.std.proofs.Common.{◌≡◌, ◌∙◌, ℕ, List, length, sym, ap, subst}
use Rattle.std.specs.Prelude.{All, IsPermutation}
use Rattle.events.specs.Names.{NameBytes, IsName}
use Rattle.cert_check.specs.Noted.{Holds, placed_from}
use Rattle.cert_check.specs.Numbering.{AreWithin}
use Rattle.format_words.specs.Words.{words_behind}
use Rattle.cert_check.proofs.TextLines.{names-behind}
use Rattle.cert_check.proofs.Listed.{lists-count}
use Rattle.cert_check.proofs.order.judge_order.Goals as goal

pub returns-in-None : goal.returns-in-None
returns-in-None c = λ version order each text.
    let of = c.of-numbered.ensures in
    let words : words_behind c.args.names.now ≡ order = ap words_behind text ∙ names-behind order each in
    let none = rw c.in-None.is at c.in_ok-ranks.ensures in (
      c.requires.sound,
      (λ perm. none (subst (All IsName) (sym words) each)
          (subst (λ (l : List NameBytes). IsPermutation c.of-numbered.result.names.items l) (sym words)
          (subst (λ (ns : List NameBytes). IsPermutation ns order) (sym of.names) perm))),
    )

pub judge_ranks-requires-clause-within : goal.judge_ranks-requires-clause-within
judge_ranks-requires-clause-within c =
    let of = c.of-numbered.ensures in
    let names : List NameBytes = c.of-numbered.result.names.items in
    let both : IsPermutation names (words_behind c.args.names.now)
    × Holds names (length names) (placed_from 0 (words_behind c.args.names.now)) c.in-Some.ranks.items =
    rw c.in-Some.is at c.in_ok-ranks.ensures in
    let size : length names ≡ length c.deref.result.now =
    sym both.1.size ∙ ap (λ (l : List ℕ). length l) (sym c.deref.ensures.value) in
    subst (λ (n : ℕ). AreWithin n c.of-numbered.result) size of.within

pub judge_ranks-requires-clause-operations : goal.judge_ranks-requires-clause-operations
judge_ranks-requires-clause-operations c =
    sym (lists-count c.args.recording.now c.of-numbered.result c.of-numbered.ensures)

pub returns : goal.returns
returns c = λ version order each text.
    let names : List NameBytes = c.of-numbered.result.names.items in
    let words : words_behind c.args.names.now ≡ order = ap words_behind text ∙ names-behind order each in
    let got : IsPermutation names (words_behind c.args.names.now)
    × Holds names (length names) (placed_from 0 (words_behind c.args.names.now)) c.in-Some.ranks.items =
    rw c.in-Some.is at c.in_ok-ranks.ensures in
    let both : IsPermutation names order
    × Holds names (length names) (placed_from 0 order) c.in-Some.ranks.items =
    subst (λ (l : List NameBytes). IsPermutation names l
    × Holds names (length names) (placed_from 0 l) c.in-Some.ranks.items) words got in
    c.judge_ranks.ensures version c.args.recording.now order c.of-numbered.ensures both.0
    (subst (Holds names (length names) (placed_from 0 order)) (sym c.deref.ensures.value) both.1)
