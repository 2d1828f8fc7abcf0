-- One name of the order more.
use Rattle.std.proofs.Common.{◌≡◌, ◌<◌, ◌==◌, List, length, refl, subst, arith}
use Rattle.std.proofs.lemmas.Grind.{common_steps}
use Rattle.format_words.specs.Words.{Word, words_behind}
use Rattle.format_words.proofs.FirstWord.{none-behind}
use Rattle.format_words.proofs.NamesRead.{some-word-at}
use Rattle.cert_check.proofs.Noting.{Placed, placed-next, placed-stop, placed-many, placed-end}
use Rattle.cert_check.proofs.numbered.Numbered.note_order.Goals as goal

pub returns-in_default : goal.returns-in_default
returns-in_default c =
    let some : 0 < length c.loop-rest.rest.now = grind (arith, common_steps) in
    absurd (some-word-at c.loop-rest.rest.now some c.in_default.ensures.word)

pub returns-then-place-count : goal.returns-then-place-count
returns-then-place-count c = λ each perm.
    placed-many c.args.self.now.names.items c.args.count (words_behind c.args.words.now) c.loop-rest.ranks
    c.loop-rest.place (words_behind c.loop-rest.rest.now) c.in-Ok.word.now
    (words_behind c.in-Ok.behind.now) c.in-Ok.ensures.word c.loop-rest.invariant.placed
    c.requires.count c.if-place-count.true perm

pub returns-in_default-note : goal.returns-in_default-note
returns-in_default-note c = λ each perm.
    let none = rw c.in_default-note.is at c.note.ensures.noted in
    placed-stop c.args.self.now.names.items c.args.count (words_behind c.args.words.now) c.loop-rest.ranks
    c.loop-rest.place (words_behind c.loop-rest.rest.now) c.in-Ok.word.now
    (words_behind c.in-Ok.behind.now) c.in-Ok.ensures.word c.loop-rest.invariant.placed
    c.requires.numbering.once (λ noted holds name. none noted holds name) each perm

pub loop-rest-preserved : goal.loop-rest-preserved
loop-rest-preserved c = record {
  most = omega (arith, c.loop-rest.invariant.most, c.if-place-count.false);
  placed =
      placed-next c.args.self.now.names.items c.args.count (words_behind c.args.words.now) c.loop-rest.ranks
      c.loop-rest.place (words_behind c.loop-rest.rest.now) c.in-Ok.word.now
      (words_behind c.in-Ok.behind.now) c.in-Ok.ensures.word c.loop-rest.invariant.placed
      c.note.new.values c.in-Some.ensures.noted;
}

pub returns : goal.returns
returns c =
    let all : List Word = words_behind c.args.words.now in
    let names = c.args.self.now.names.items in
    let none : length c.loop-rest.rest.now ≡ 0 = grind (arith, common_steps) in
    let state =
    subst (λ (l : List Word). Placed names c.args.count all c.loop-rest.ranks c.loop-rest.place l)
    (none-behind c.loop-rest.rest.now none) c.loop-rest.invariant.placed in
    placed-end names c.args.count all c.loop-rest.ranks c.loop-rest.place c.requires.numbering.once
    c.requires.count state (c.loop-rest.place == c.args.count) refl
