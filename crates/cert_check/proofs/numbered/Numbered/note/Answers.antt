-- The name's element has no value, or has one, or there is none.
use Rattle.std.proofs.Common.{◌<◌, length, refl, arith}
use Rattle.std.proofs.lemmas.Option.{slice_get_within}
use Rattle.cert_check.proofs.NotedNames.{none_unknown, none_twice, hold_more}
use Rattle.cert_check.proofs.numbered.Numbered.note.Goals as goal

pub returns-in_default-clause-noted : goal.returns-in_default-clause-noted
returns-in_default-clause-noted c = λ noted holds name can.
    let none = rw c.in_default.is at c.find.ensures in
    none_unknown c.args.self.now.names.items noted c.args.word.now c.args.value c.requires.numbering.once
    (none name) can

pub bounds-values-number : goal.bounds-values-number
bounds-values-number c =
    let lt : c.in-Some.number < length c.args.self.now.names.items =
    slice_get_within c.args.self.now.names.items c.in-Some.number c.args.word.now c.in-Some.ensures in
    omega (arith, lt, c.requires.room)

pub returns-then-values-number-clause-noted : goal.returns-then-values-number-clause-noted
returns-then-values-number-clause-noted c = λ noted holds name can.
    none_twice c.args.self.now.names.items c.args.unset noted c.args.values.now c.requires.numbering.once
    holds c.args.word.now c.in-Some.number c.args.value c.in-Some.ensures c.if-values-number.true can

pub returns-clause-noted : goal.returns-clause-noted
returns-clause-noted c = λ noted holds.
    hold_more c.args.self.now.names.items c.args.unset noted c.args.values.now c.requires.numbering.once holds
    c.args.word.now c.in-Some.number c.args.value c.in-Some.ensures c.if-values-number.false
    c.requires.below

pub returns-clause-written : goal.returns-clause-written
returns-clause-written c = record {
  within =
      omega (
        arith,
        slice_get_within c.args.self.now.names.items c.in-Some.number c.args.word.now c.in-Some.ensures,
        c.requires.room,
      );
  free = c.if-values-number.false;
  written = refl;
}
