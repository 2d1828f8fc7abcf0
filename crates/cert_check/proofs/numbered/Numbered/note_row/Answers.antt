-- One word of the row more.
use Rattle.std.proofs.Common.{◌<◌, length, arith}
use Rattle.std.proofs.lemmas.Grind.{common_steps}
use Rattle.format_words.specs.Words.{words_behind}
use Rattle.format_words.proofs.NamesRead.{some-word-at}
use Rattle.cert_check.proofs.Noting.{state-start, state-next, state-stop}
use Rattle.cert_check.proofs.RowNumbers.{hold-fresh, none-noted}
use Rattle.cert_check.proofs.numbered.Numbered.note_row.Goals as goal

pub returns-in_default : goal.returns-in_default
returns-in_default c =
    let some : 0 < length c.loop-rest.rest.now = grind (arith, common_steps) in
    absurd (some-word-at c.loop-rest.rest.now some c.in_default.ensures.word)

pub loop-rest-init : goal.loop-rest-init
loop-rest-init c =
    let names = c.args.self.now.names.items in
    record {
      below = c.requires.some;
      noted = state-start names c.args.unset (words_behind c.args.words.now) c.args.row.now.depths.items
          (hold-fresh names c.args.unset c.args.row.now c.requires.fresh);
      numbers = none-noted (length names) c.args.unset c.args.row.now c.requires.fresh;
    }

pub returns-in_default-found-clause-row : goal.returns-in_default-found-clause-row
returns-in_default-found-clause-row c = λ each few can.
    let none = rw c.in_default-found.is at c.in_ok-found.ensures.noted in
    state-stop c.args.self.now.names.items c.args.unset (words_behind c.args.words.now)
    c.loop-rest.row.depths.items c.loop-rest.at.depth (words_behind c.loop-rest.rest.now) c.in-Ok.word.now
    (words_behind c.in-Ok.behind.now) c.in-Ok.ensures.word c.loop-rest.invariant.noted
    (λ noted holds row. none noted holds row) each few can

pub loop-rest-preserved : goal.loop-rest-preserved
loop-rest-preserved c =
    let goes = rw c.in-Some.is at c.in_ok-found.ensures.noted in
    record {
      below = rw c.in-Some.is at c.in_ok-found.ensures.below;
      noted = state-next c.args.self.now.names.items c.args.unset
          (words_behind c.args.words.now) c.loop-rest.row.depths.items c.loop-rest.at.depth
          (words_behind c.loop-rest.rest.now) c.in-Ok.word.now
          (words_behind c.in-Ok.behind.now) c.in-Ok.ensures.word c.loop-rest.invariant.noted
          c.note_word.new.row.depths.items c.in-Some.next.depth goes;
      numbers = rw c.in-Some.is at c.in_ok-found.ensures.numbers;
    }
